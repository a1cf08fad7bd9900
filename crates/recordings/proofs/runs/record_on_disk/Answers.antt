use Rattle.recordings.proofs.runs.record_on_disk.Goals as goal

pub returns : goal.returns
returns g c =
    record { between = c.record_step-work.new.host; work = c.record_step-work.result; works = c.record_step-work.ensures; ends = c.end.ensures }
