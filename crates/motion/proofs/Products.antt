-- The products of vectors are linear in each factor.
use Rattle.std.proofs.Common.{◌≡◌, ℤ, pos, ◌+ℤ◌, ◌-ℤ◌, ◌*ℤ◌, arith}
use lib.IntN.{*ℤ_comm}
use borrow.Author.Differences.{ints}
use Rattle.motion.specs.declared.shapes.V3.{V3}
use Rattle.motion.specs.Vectors.{◌+ᵛ◌, ◌-ᵛ◌, ◌·ᵛ◌, dot, cross, origin}
use Rattle.motion.proofs.Integers.{products, sums}

-- axis by axis
pub same : {u v : V3} → (u.x ≡ v.x) × (u.y ≡ v.y) × (u.z ≡ v.z) → u ≡ v
same e = λ i. record { x = e.0 i; y = e.1 i; z = e.2 i }

module _ (u v w : V3) where
  pub sum-dot : dot (u +ᵛ v) w ≡ dot u w +ℤ dot v w
  unfolding dot ◌+ᵛ◌
  sum-dot = simp products (omega (arith, sums))

  pub dot-sum : dot u (v +ᵛ w) ≡ dot u v +ℤ dot u w
  unfolding dot ◌+ᵛ◌
  dot-sum = simp products (omega (arith, sums))

  pub dot-minus : dot u (v -ᵛ w) ≡ dot u v -ℤ dot u w
  unfolding dot ◌-ᵛ◌
  dot-minus = simp products (omega (arith, sums))

  pub sum-cross : cross (u +ᵛ v) w ≡ cross u w +ᵛ cross v w
  unfolding cross ◌+ᵛ◌
  sum-cross = same (simp products (omega (arith, sums)))

  pub cross-sum : cross u (v +ᵛ w) ≡ cross u v +ᵛ cross u w
  unfolding cross ◌+ᵛ◌
  cross-sum = same (simp products (omega (arith, sums)))

  pub minus-cross : cross (u -ᵛ v) w ≡ cross u w -ᵛ cross v w
  unfolding cross ◌-ᵛ◌
  minus-cross = same (simp products (omega (arith, sums)))

  pub cross-minus : cross u (v -ᵛ w) ≡ cross u v -ᵛ cross u w
  unfolding cross ◌-ᵛ◌
  cross-minus = same (simp products (omega (arith, sums)))

module _ (k : ℤ) (u v : V3) where
  pub times-dot : dot (k ·ᵛ u) v ≡ k *ℤ dot u v
  unfolding dot ◌·ᵛ◌
  times-dot = simp products (omega (arith, sums))

  pub dot-times : dot u (k ·ᵛ v) ≡ k *ℤ dot u v
  unfolding dot ◌·ᵛ◌
  dot-times = simp products (omega (arith, sums))

  pub times-cross : cross (k ·ᵛ u) v ≡ k ·ᵛ cross u v
  unfolding cross ◌·ᵛ◌
  times-cross = same (simp products (omega (arith, sums)))

  pub cross-times : cross u (k ·ᵛ v) ≡ k ·ᵛ cross u v
  unfolding cross ◌·ᵛ◌
  cross-times = same (simp products (omega (arith, sums)))

-- for `simp`
pub ruleset linear = (sum-dot, dot-sum, dot-minus, times-dot, dot-times, sum-cross, cross-sum, minus-cross, cross-minus, times-cross, cross-times)

module _ (u v : V3) where
  pub dot-comm : dot u v ≡ dot v u
  unfolding dot
  dot-comm = λ i. *ℤ_comm u.x v.x i +ℤ *ℤ_comm u.y v.y i +ℤ *ℤ_comm u.z v.z i

  -- a cross product stands across its factors
  pub cross-first : dot (cross u v) u ≡ pos 0
  unfolding dot cross
  cross-first = simp products (omega (arith, sums))

  pub cross-second : dot (cross u v) v ≡ pos 0
  unfolding dot cross
  cross-second = simp products (omega (arith, sums))

pub dot-origin : (d : V3) → dot d origin ≡ pos 0
unfolding dot
dot-origin d = omega (arith, ints)
