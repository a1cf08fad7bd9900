use Rattle.std.proofs.Common.{◌∙◌, arith}
use Rattle.std.proofs.lemmas.Result.{err_from_is_err_and}
use Rattle.step.proofs.NextRow.{checks_more, checks_stop}
use Rattle.step.proofs.laying.survey.Goals as goal

pub loop-i-preserved : goal.loop-i-preserved
loop-i-preserved c =
    let read = c.in_ok-next.ensures in
    checks_more c.args.rows.now c.loop-i.i _ c.loop-i.rest.now _ (omega arith) read.fault read.rest ∙ c.loop-i.invariant

pub returns-in_err-next : goal.returns-in_err-next
returns-in_err-next c =
    let p = err_from_is_err_and c.from_residual.result c.from_residual.ensures.1 in
    rw (p.1, p.2) (checks_stop c.args.rows.now c.loop-i.i _ c.loop-i.rest.now _ (omega arith) c.in_err-next.ensures.fault ∙ c.loop-i.invariant)
