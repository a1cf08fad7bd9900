use Rattle.std.proofs.Common.{◌≤◌, length, ◌∙◌, arith}
use Rattle.sheet.proofs.Walking.{checks_more, checks_stop, points_more, faces_more}
use Rattle.sheet.proofs.reader.fill.Goals as goal

pub unreachable-requires : goal.unreachable-requires
unreachable-requires c =
    let bad = checks_stop c.args.room c.loop-line.above _ _ _ _ c.in-Some.ensures.steps c.in_default.ensures.fault ∙ c.loop-line.invariant.0 in
    cc bad

pub loop-line-preserved : goal.loop-line-preserved
loop-line-preserved c =
    let left = c.in-Some.ensures.steps in
    let made = c.counting-above.ensures in
    let element_from = c.in-Ok.ensures in
    let p : c.args.room.points ≤ length c.loop-line.points = omega arith in
    let f : c.args.room.faces ≤ length c.loop-line.faces = omega arith in (
      checks_more c.args.room c.loop-line.above _ _ _ _ _ left made element_from.element element_from.fault ∙ c.loop-line.invariant.0,
      points_more c.args.room c.loop-line.above _ _ c.loop-line.points _ _ _ _ left made element_from.element c.store.ensures.points element_from.room p ∙ c.loop-line.invariant.1,
      faces_more c.args.room c.loop-line.above _ _ c.loop-line.faces _ _ _ _ left made element_from.element c.store.ensures.faces element_from.room f ∙ c.loop-line.invariant.2,
    )
