-- How long a record can be.
use Rattle.std.specs.Prelude.{◌≡◌, ℕ, ◌*◌, ◌≤◌, List, length, replicate, pos}
use Rattle.sheet.specs.Sheet.{point_limit}
use Rattle.sheet.specs.declared.rows.Point.{Point}
use Rattle.step.specs.Record.{record_of}

-- a point that moves on every axis
abbrev pub mover : Point
mover =
    record {
      start = record { x = pos 0; y = pos 0; z = pos 0 };
      end = record { x = pos 1; y = pos 1; z = pos 1 };
    }

-- n is the length of the longest record that m points have: none is longer, also of fewer points,
-- and m points that move on every axis have it
abbrev pub Longest : ℕ → ℕ → Type 0
Longest m n =
    ((ps : List Point) → length ps ≤ m → length (record_of ps) ≤ n)
    × (length (record_of (replicate m mover)) ≡ n)

-- the longest record of a sheet
abbrev pub record_limit : ℕ
record_limit = 7 * point_limit
