use Rattle.filters.proofs.Reaches.{same-reach, minus-reach}
use Rattle.filters.proofs.vectors.way.Goals as goal

pub returns-clause-reach : goal.returns-clause-reach
returns-clause-reach c = same-reach c.minus.ensures (minus-reach c.requires.1 c.requires.0)
