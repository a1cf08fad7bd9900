use Rattle.std.proofs.Common.{◌∙◌}
use Rattle.std.proofs.lemmas.Result.{err_from_is_err_and}
use Rattle.sheet.proofs.Walking.{checks_more, checks_stop, total_more}
use Rattle.sheet.proofs.reader.survey.Goals as goal

pub returns-in_err-element-clause-fault : goal.returns-in_err-element-clause-fault
returns-in_err-element-clause-fault c =
    let p = err_from_is_err_and c.from_residual.result c.from_residual.ensures.1 in
    rw (p.1, p.2) (checks_stop c.args.room c.loop-line.above _ _ _ _ c.in-Some.ensures.steps c.in_err-element.ensures.fault ∙ c.loop-line.invariant.0)

pub loop-line-preserved : goal.loop-line-preserved
loop-line-preserved c =
    let left = c.in-Some.ensures.steps in
    let made = c.counting-above.ensures in
    let element_from = c.in_ok-element.ensures in (
      checks_more c.args.room c.loop-line.above _ _ _ _ _ left made element_from.element element_from.fault ∙ c.loop-line.invariant.0,
      total_more c.loop-line.above _ _ _ _ _ left made element_from.element ∙ c.loop-line.invariant.1,
    )
