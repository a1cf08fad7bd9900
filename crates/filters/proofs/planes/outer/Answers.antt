use Rattle.filters.proofs.Exact.{literal, fits, stored, times}
use Rattle.filters.proofs.Volumes.{volume}
use Rattle.filters.proofs.planes.outer.Goals as goal

pub overflow_mul-result : goal.overflow_mul-result
overflow_mul-result c = fits (times (literal 3) (volume c.dot.ensures c.requires.0 c.requires.1)) tt

pub returns : goal.returns
returns c = (stored (times (literal 3) (volume c.dot.ensures c.requires.0 c.requires.1)) tt).same
