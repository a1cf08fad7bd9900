-- Struck at a depth, and the window.
use Rattle.std.specs.Prelude.{◌≡◌, ◌↔◌, ℕ, zero, suc, ◌+◌, ◌^◌, ◌<◌, ◌≤◌, Bool, true, ◌&&◌, ◌⊎◌, if◌then◌else◌, Option, Some, None, MatchOption, IsTrue}
use Rattle.std.specs.Bool.{IsFalse}
use Rattle.std.specs.Option.{option_or, option_zip}
use Rattle.motion.specs.declared.shapes.Shape.{Shape}
use Rattle.motion.specs.Laws.{subinterval, Apart}

-- f holds at each number below n
abbrev pub every : (ℕ → Bool) → ℕ → Bool
every f zero = true
every f (suc n) = every f n && f n

-- at depth d a test is struck when the set has each of its 2^d subintervals, else it is passed
unfoldable pub struck_at : (Shape → Bool) → ℕ → Shape → Bool
struck_at set d t = every (λ j. set (subinterval d j t)) (2 ^ d)

-- what a test that is struck at depth d owes to the laws:
-- it stays apart for the whole step, and is struck at every greater depth
pub record Struck (set : Shape → Bool) (d : ℕ) (t : Shape) : Type 0 where
  pub apart : Apart t
  pub deeper : (e : ℕ) → d ≤ e → t.scale + e ≤ 6 → IsTrue (struck_at set e t)

-- i is the first and j the last subinterval of depth d that the set lacks
pub record IsWindow (set : Shape → Bool) (d : ℕ) (t : Shape) (i j : ℕ) : Type 0 where
  pub within : j < 2 ^ d
  pub first : IsFalse (set (subinterval d i t))
  pub before : (n : ℕ) → n < i → IsTrue (set (subinterval d n t))
  pub last : IsFalse (set (subinterval d j t))
  pub beyond : (n : ℕ) → j < n → n < 2 ^ d → IsTrue (set (subinterval d n t))

-- what it owes to the laws: in each subinterval before i or after j the features stay apart
pub record Window (set : Shape → Bool) (d : ℕ) (t : Shape) (i j : ℕ) : Type 0 where
  pub is : IsWindow set d t i j
  pub apart : (n : ℕ) → n < 2 ^ d → (n < i) ⊎ (j < n) → Apart (subinterval d n t)

-- with no window the test is struck
abbrev pub WindowMeans : (Shape → Bool) → ℕ → Shape → Option (ℕ × ℕ) → Type 0
WindowMeans set d t w = MatchOption w (Struck set d t) (λ (i, j). Window set d t i j)

-- the least number below n at which f does not hold
abbrev pub first_lacking : (ℕ → Bool) → ℕ → Option ℕ
first_lacking f zero = None
first_lacking f (suc n) = option_or (first_lacking f n) (if f n then None else Some n)

-- the greatest
abbrev pub last_lacking : (ℕ → Bool) → ℕ → Option ℕ
last_lacking f zero = None
last_lacking f (suc n) = if f n then last_lacking f n else Some n

-- the first subinterval of depth d that the set lacks, and the last
unfoldable pub first_passed : (Shape → Bool) → ℕ → Shape → Option ℕ
first_passed set d t = first_lacking (λ j. set (subinterval d j t)) (2 ^ d)

unfoldable pub last_passed : (Shape → Bool) → ℕ → Shape → Option ℕ
last_passed set d t = last_lacking (λ j. set (subinterval d j t)) (2 ^ d)

-- the window at depth d: both of them, or none where the set has every subinterval
unfoldable pub window_at : (Shape → Bool) → ℕ → Shape → Option (ℕ × ℕ)
window_at set d t = option_zip (first_passed set d t) (last_passed set d t)

-- whatever the set: what `window_at` finds is a window,
-- and it finds none exactly where the test is struck
pub record FindsWindow (set : Shape → Bool) (d : ℕ) (t : Shape) : Type 0 where
  pub some : (i j : ℕ) → window_at set d t ≡ Some (i, j) → IsWindow set d t i j
  pub none : (window_at set d t ≡ None) ↔ IsTrue (struck_at set d t)
