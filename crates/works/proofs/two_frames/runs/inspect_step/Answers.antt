use Rattle.std.proofs.Common.{Some, ap, ◌∙◌}
use Rattle.works.proofs.of_frames.Steps.{search_told, pairs_inspected}
use Rattle.works.proofs.two_frames.runs.inspect_step.Goals as goal

pub returns-in-Ok : goal.returns-in-Ok
returns-in-Ok g c =
    pairs_inspected g.H.Host.does g.H.Host.fails c.args.draft c.args.points.now c.args.faces.now c.args.host.now c.print_step.new.host c.in_ok-print_step.ensures c.inspect_pairs.new.host c.inspect_pairs.result
    c.in-Ok.pairs.now c.in-Ok.ensures.fault c.in-Ok.ensures.found c.inspect_pairs.ensures

pub returns-in-Err : goal.returns-in-Err
returns-in-Err g c =
    search_told g.H.Host.does g.H.Host.fails c.args.draft c.args.points.now c.args.faces.now c.args.host.now c.print_step.new.host c.in_ok-print_step.ensures c.tell_unsearched.new.host c.tell_unsearched.result
    c.notice.result (ap Some c.notice.ensures ∙ c.in-Err.ensures.fault) c.tell_unsearched.ensures
