use Rattle.std.proofs.Common.{◌+◌, true, sym, ◌∙◌}
use Rattle.std.proofs.lemmas.Bool.{leb-true}
use Rattle.motion.proofs.DepthLaws.{struck}
use Rattle.std.proofs.lemmas.Option.{same_Some}
use Rattle.filters.proofs.depths.struck_at.Goals as goal

pub returns-clause-laws : goal.returns-clause-laws
returns-clause-laws g c =
    let f = c.args.filter.now in
    let t = c.args.test.now.shape in
    let d = c.args.depth in
    let room = leb-true (t.scale + d) 6 (sym c.if-not-has_room.ensures) in
    λ e. struck (g.F.Filter.struck f) (g.F.Filter.lawful f) d t c.args.test.now.valid room (sym c.struck.ensures ∙ same_Some c.struck.result true e)
