use Rattle.plans.proofs.runs.inspect_on_disk.Goals as goal

pub returns : goal.returns
returns g c =
    record { between = c.inspect_plan-work.new.host; work = c.inspect_plan-work.result; works = c.inspect_plan-work.ensures; ends = c.end.ensures }
