use Rattle.std.proofs.Common.{[], ◌∷◌, refl}
use Rattle.filters.proofs.Assembled.{made, made-lanes}
use Rattle.filters.proofs.lanes.Vectors.new.Goals as goal

pub returns-clause-vectors : goal.returns-clause-vectors
returns-clause-vectors c =
    let r = c.requires in
    made (c.args.a ∷ c.args.b ∷ c.args.c ∷ c.args.d ∷ []) (r.0, (r.1, (r.2, (r.3, tt)))) _ _ _ c.lanes.ensures c.lanes-2.ensures c.lanes-3.ensures

pub returns-clause-lanes : goal.returns-clause-lanes
returns-clause-lanes c =
    let r = c.requires in
    made-lanes (c.args.a ∷ c.args.b ∷ c.args.c ∷ c.args.d ∷ []) (r.0, (r.1, (r.2, (r.3, tt)))) _ _ _ c.lanes.ensures c.lanes-2.ensures c.lanes-3.ensures refl
