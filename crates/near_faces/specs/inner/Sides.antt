-- The sides of boxes, each in a table of its own.
use Rattle.std.specs.Prelude.{ℕ, pos, List, map, slice_index_or}
use Rattle.std.specs.List.{range_with_len}
use Rattle.sheet.specs.declared.rows.Coords.{Coords}
use Rattle.near_faces.specs.declared.boxes.SweptBox.{SweptBox}
use Rattle.near_faces.specs.declared.sides.Sides.{Sides}

abbrev pub least_at : Sides → ℕ → Coords
least_at s i =
    record {
      x = slice_index_or s.least_x i (pos 0);
      y = slice_index_or s.least_y i (pos 0);
      z = slice_index_or s.least_z i (pos 0);
    }

abbrev pub greatest_at : Sides → ℕ → Coords
greatest_at s i =
    record {
      x = slice_index_or s.greatest_x i (pos 0);
      y = slice_index_or s.greatest_y i (pos 0);
      z = slice_index_or s.greatest_z i (pos 0);
    }

-- the box whose sides stand in this row
abbrev pub box_in : Sides → ℕ → SweptBox
box_in s i = record { least = least_at s i; greatest = greatest_at s i }

-- the boxes of so many rows from this one on
abbrev pub boxes_in : Sides → ℕ → ℕ → List SweptBox
boxes_in s first count = map (box_in s) (range_with_len first count)
