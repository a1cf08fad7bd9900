use Rattle.filters.proofs.Exact.{fits, stored, plus}
use Rattle.filters.proofs.Volumes.{volume, mixed-volume}
use Rattle.filters.proofs.planes.inner.Goals as goal

pub overflow_add-result : goal.overflow_add-result
overflow_add-result c = fits (plus (mixed-volume c.dot.ensures c.requires.first.0 c.requires.first.1) (volume c.dot-2.ensures c.requires.second.0 c.requires.second.1)) tt

pub returns : goal.returns
returns c = (stored (plus (mixed-volume c.dot.ensures c.requires.first.0 c.requires.first.1) (volume c.dot-2.ensures c.requires.second.0 c.requires.second.1)) tt).same
