-- Stretches of a line of whole numbers, and the two features of a test as such.
use Rattle.std.specs.Prelude.{Bool, ◌||◌, ℤ, int_lt}
use Rattle.std.specs.Int.{int_min, int_max}
use Rattle.motion.specs.declared.shapes.Kind.{Kind}
use Rattle.motion.specs.declared.shapes.Kind.TheVariants.{Vf, Ee}
use Rattle.filters.specs.declared.spans.Span.{Span}
use Rattle.filters.specs.declared.spans.Sides.{Sides}

abbrev pub stretch : ℤ → ℤ → Span
stretch x y = record { low = int_min x y; high = int_max x y }

abbrev pub hull : Span → Span → Span
hull s t = record { low = int_min s.low t.low; high = int_max s.high t.high }

abbrev pub sides : Kind → Span → Span → Span → Span → Sides
sides Vf p a b c = record { first = p; second = hull (hull a b) c }
sides Ee p a b c = record { first = hull b c; second = hull a p }

abbrev pub lies_below : Span → Span → Bool
lies_below s t = int_lt s.high t.low

abbrev pub parted : Sides → Bool
parted s = lies_below s.first s.second || lies_below s.second s.first
