use Rattle.filters.proofs.Exact.{less, fits, stored, product}
use Rattle.filters.proofs.vectors.minor.Goals as goal

pub overflow_sub-result : goal.overflow_sub-result
overflow_sub-result c = fits (less (product c.requires.first c.requires.fourth tt tt tt) (product c.requires.second c.requires.third tt tt tt)) tt

pub returns : goal.returns
returns c = (stored (less (product c.requires.first c.requires.fourth tt tt tt) (product c.requires.second c.requires.third tt tt tt)) tt).same
