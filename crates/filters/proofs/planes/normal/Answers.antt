use Rattle.filters.proofs.Reaches.{reached, minus-reach}
use Rattle.filters.proofs.planes.normal.Goals as goal

pub cross-requires : goal.cross-requires
cross-requires c =
    (reached c.minus.ensures (minus-reach c.requires.1 c.requires.0) tt, reached c.minus-2.ensures (minus-reach c.requires.2 c.requires.0) tt)
