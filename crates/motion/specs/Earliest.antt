-- The earliest subinterval that is passed, where they are put to a filter one after another.
use Rattle.std.specs.Prelude.{ℕ, ◌+◌, ◌^◌, ◌<◌, Bool, Option, Some, None, MatchOption}
use Rattle.motion.specs.declared.shapes.Shape.{Shape}
use Rattle.motion.specs.Laws.{subinterval, Apart}
use Rattle.motion.specs.Depths.{Struck}

-- so many of the 2^d are put to it from the front: up to the one that is passed, or all
abbrev pub put_until : ℕ → Option ℕ → ℕ
put_until d None = 2 ^ d
put_until d (Some i) = i + 1

-- what the earliest owes to the laws: in each subinterval before it the features stay apart
-- with none the test is struck
abbrev pub EarliestMeans : (Shape → Bool) → ℕ → Shape → Option ℕ → Type 0
EarliestMeans set d t p = MatchOption p (Struck set d t) (λ i. (n : ℕ) → n < i → Apart (subinterval d n t))

-- the first part of a window, if there is one
abbrev pub first_of : Option (ℕ × ℕ) → Option ℕ
first_of None = None
first_of (Some w) = Some w.0
