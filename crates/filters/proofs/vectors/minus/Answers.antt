use Rattle.std.proofs.Common.{arith}
use borrow.Author.Differences.{ints}
use Rattle.motion.specs.Vectors.{◌-ᵛ◌}
use Rattle.motion.proofs.Products.{same}
use Rattle.filters.proofs.vectors.minus.Goals as goal

pub returns : goal.returns
unfolding ◌-ᵛ◌
returns c = same (omega (arith, ints))
