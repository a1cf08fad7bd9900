-- The halves of a step: where a point is at the start, in the middle and at the end, on their grid,
-- and their features.
use Rattle.std.proofs.Common.{◌≡◌, ℕ, map, refl, arith}
use borrow.Author.Differences.{ints}
use Rattle.motion.specs.declared.shapes.Kind.{Kind}
use Rattle.motion.specs.declared.shapes.Kind.TheVariants.{Vf, Ee}
use Rattle.motion.specs.declared.shapes.Moving.{Moving}
use Rattle.motion.specs.declared.shapes.Shape.{Shape}
use Rattle.motion.specs.Vectors.{◌+ᵛ◌, ◌-ᵛ◌, ◌·ᵛ◌}
use Rattle.motion.specs.Features.{firsts, seconds, first, second}
use Rattle.motion.specs.Laws.{at, after, portion, half}
use Rattle.motion.proofs.Products.{same}

module _ (m : Moving) where
  pub at_start : after 1 0 m ≡ m.start +ᵛ m.start
  unfolding ◌+ᵛ◌ ◌·ᵛ◌ at after
  at_start = same (omega (arith, ints))

  pub at_middle : after 1 1 m ≡ m.start +ᵛ m.end
  unfolding ◌+ᵛ◌ ◌·ᵛ◌ at after
  at_middle = same (omega (arith, ints))

  pub at_end : after 1 2 m ≡ m.end +ᵛ m.end
  unfolding ◌+ᵛ◌ ◌·ᵛ◌ at after
  at_end = same (omega (arith, ints))

-- one point seen from another
module _ (m n : Moving) where
  pub minus-start : (m.start -ᵛ n.start) +ᵛ (m.start -ᵛ n.start) ≡ after 1 0 m -ᵛ after 1 0 n
  unfolding ◌+ᵛ◌ ◌-ᵛ◌ ◌·ᵛ◌ at after
  minus-start = same (omega (arith, ints))

  pub minus-middle : (m.start -ᵛ n.start) +ᵛ (m.end -ᵛ n.end) ≡ after 1 1 m -ᵛ after 1 1 n
  unfolding ◌+ᵛ◌ ◌-ᵛ◌ ◌·ᵛ◌ at after
  minus-middle = same (omega (arith, ints))

  pub minus-end : (m.end -ᵛ n.end) +ᵛ (m.end -ᵛ n.end) ≡ after 1 2 m -ᵛ after 1 2 n
  unfolding ◌+ᵛ◌ ◌-ᵛ◌ ◌·ᵛ◌ at after
  minus-end = same (omega (arith, ints))

-- ---- the features of a half are the halves of the features
module _ {A B : Type 0} (g : A → B) (p a b c : A) where
  firsts-map : (k : Kind) → map g (firsts k p a b c) ≡ firsts k (g p) (g a) (g b) (g c)
  firsts-map Vf = refl
  firsts-map Ee = refl

  seconds-map : (k : Kind) → map g (seconds k p a b c) ≡ seconds k (g p) (g a) (g b) (g c)
  seconds-map Vf = refl
  seconds-map Ee = refl

module _ (t : Shape) (j : ℕ) where
  pub ones-of : map (portion 1 j) (first t) ≡ first (half j t)
  ones-of = firsts-map (portion 1 j) t.p t.a t.b t.c t.kind

  pub others-of : map (portion 1 j) (second t) ≡ second (half j t)
  others-of = seconds-map (portion 1 j) t.p t.a t.b t.c t.kind
