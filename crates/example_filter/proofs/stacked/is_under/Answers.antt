use Rattle.std.proofs.Common.{◌≡◌, ℤ, pos, ◌-ℤ◌, arith, w64, SFits, rules}
use lib.Signed.{lt_z}
use borrow.Author.Differences.{ints}
use Rattle.std.proofs.lemmas.Int.{to_z-of_z}
use Rattle.motion.specs.Vectors.{◌-ᵛ◌}
use Rattle.example_filter.proofs.stacked.is_under.Goals as goal

below-zero : (x y : ℤ) → lt_z x y ≡ lt_z (x -ℤ y) (pos 0)
below-zero x y = grind (arith, ints)

pub returns : goal.returns
unfolding ◌-ᵛ◌
returns c =
    let f : SFits w64 c.args.u.z = search rules in
    let g : SFits w64 c.args.v.z = search rules in
    simp to_z-of_z (below-zero c.args.u.z c.args.v.z)
