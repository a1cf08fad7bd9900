-- The earliest subinterval that is passed, and how many are put to a filter to find it.
use Rattle.std.specs.Prelude.{ℕ, Bool}
use Rattle.motion.specs.declared.shapes.Shape.{Shape}
use Rattle.motion.specs.Depths.{first_passed}
use Rattle.motion.specs.Earliest.{put_until}
use Rattle.filters.specs.declared.first_parts.Earliest.{Earliest}

unfoldable pub earliest_at : (Shape → Bool) → ℕ → Shape → Earliest
earliest_at set d t =
    let first = first_passed set d t in record { part = first; put = put_until d first }
