use Rattle.std.proofs.Common.{◌+◌, sym}
use Rattle.std.proofs.lemmas.Bool.{leb-true}
use Rattle.motion.proofs.Windows.{window-means}
use Rattle.filters.proofs.windows.window_at.Goals as goal

pub returns-clause-meaning : goal.returns-clause-meaning
returns-clause-meaning g c =
    let f = c.args.filter.now in
    let t = c.args.test.now in
    let d = c.args.depth in
    let room = leb-true (t.shape.scale + d) 6 (sym c.if-not-has_room.ensures) in
    window-means (g.F.Filter.struck f) (g.F.Filter.lawful f) d t.shape t.valid room c.window.result c.window.ensures
