-- Joined stretches reach from the least to the greatest.
use Rattle.std.proofs.Common.{◌≡◌, ◌||◌, ℤ, arith}
use borrow.Author.Differences.{ints}
use Rattle.std.specs.Int.{int_min, int_max}
use Rattle.std.proofs.lemmas.Int.{clamps}
use Rattle.motion.specs.declared.shapes.V3.{V3}
use Rattle.motion.specs.declared.shapes.Kind.{Kind}
use Rattle.motion.specs.declared.shapes.Kind.TheVariants.{Vf, Ee}
use Rattle.motion.specs.declared.shapes.Moving.{Moving}
use Rattle.motion.specs.Features.{firsts, seconds}
use Rattle.motion.specs.Box.{under}
use Rattle.filters.specs.declared.spans.Span.{Span}
use Rattle.filters.specs.inner.Spans.{stretch, sides, parted}

max-assoc : (a b c : ℤ) → int_max (int_max a b) c ≡ int_max a (int_max b c)
max-assoc a b c = omega (arith, ints, clamps)

min-assoc : (a b c : ℤ) → int_min (int_min a b) c ≡ int_min a (int_min b c)
min-assoc a b c = omega (arith, ints, clamps)

module _ (axis : V3 → ℤ) where
  abbrev swept : Moving → Span
  swept m = stretch (axis m.start) (axis m.end)

  pub parted-is : (k : Kind) (p a b c : Moving)
      → parted (sides k (swept p) (swept a) (swept b) (swept c))
      ≡ (under axis (firsts k p a b c) (seconds k p a b c) || under axis (seconds k p a b c) (firsts k p a b c))
  parted-is Vf p a b c = simp (max-assoc, min-assoc)
  parted-is Ee p a b c = simp (max-assoc, min-assoc)
