-- What it is to count back.
use Rattle.std.specs.Prelude.{◌≡◌, ℕ, ◌+◌, ◌-◌, ◌≤◌, IsTrue, List, pos, neg_ℤ}
use Rattle.sheet.specs.Numerals.{value_of}
use Rattle.sheet.specs.Sheet.{names_point, point_named}

-- of so many points, −n and points + 1 − n name the same one
abbrev pub CountsBack : Type 0
CountsBack =
    (points n : ℕ) → (f g : List ℕ) → 1 ≤ n → n ≤ points → value_of f ≡ neg_ℤ (pos n) → value_of g ≡ pos (points + 1 - n)
    → IsTrue (names_point points f) × IsTrue (names_point points g) × (point_named points f ≡ point_named points g)
