use Rattle.inspecting.proofs.runs.inspect_on_disk.Goals as goal

pub returns : goal.returns
returns g c =
    record { between = c.inspect_frames-work.new.host; work = c.inspect_frames-work.result; works = c.inspect_frames-work.ensures; ends = c.end.ensures }
