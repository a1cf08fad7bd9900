use Rattle.std.proofs.Common.{[], ◌∷◌}
use Rattle.filters.proofs.Laned.{casts-back}
use Rattle.filters.proofs.lanes.lanes.Goals as goal

pub returns : goal.returns
returns c = let a = c.args in let r = c.requires in casts-back (a.a ∷ a.b ∷ a.c ∷ a.d ∷ []) (r.0, (r.1, (r.2, (r.3, tt))))
