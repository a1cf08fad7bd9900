use Rattle.std.proofs.Common.{◌∙◌, arith}
use Rattle.step.proofs.NextRow.{checks_stop}
use Rattle.step.proofs.laying.fill.Goals as goal

pub unreachable-requires : goal.unreachable-requires
unreachable-requires c =
    let bad = checks_stop c.loop-i.rows c.loop-i.i _ c.loop-i.rest.now _ (omega arith) c.in_default.ensures.fault ∙ c.loop-i.invariant.0 in
    cc bad
