use Rattle.std.proofs.Common.{◌∙◌}
use Rattle.std.proofs.lemmas.Result.{err_from_is_err_and}
use Rattle.works.proofs.of_frames.Steps.{rows_cut, last_told}
use Rattle.works.proofs.two_frames.runs.inspect_pairs.Goals as goal

pub returns-in_err-refused : goal.returns-in_err-refused
returns-in_err-refused g c =
    let fault = err_from_is_err_and c.from_residual-in_err-refused.result c.from_residual-in_err-refused.ensures.1 in
    rows_cut g.H.Host.does g.H.Host.fails c.args.draft c.args.points.now c.args.faces.now c.args.pairs.now c.args.host.now c.print_pairs.new.host c.in_ok-print_pairs.ensures
    c.inspect_rows.new.host c.in_err-refused.field-0.0 c.from_residual-in_err-refused.result c.in_err-refused.ensures (rw (← fault.2) fault.1)

pub returns : goal.returns
returns g c =
    last_told g.H.Host.does g.H.Host.fails c.args.draft c.args.points.now c.args.faces.now c.args.pairs.now c.args.host.now c.print_pairs.new.host c.in_ok-print_pairs.ensures
    c.inspect_rows.new.host c.tell.new.host c.in_ok-refused.refused c.as_str.result.now c.ending_by.result c.tell.result c.in_ok-refused.ensures (c.as_str.ensures.value ∙ c.last_line.ensures) c.ending_by.ensures c.tell.ensures
