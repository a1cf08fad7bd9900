-- What faces sweep over: boxes with sides along the axes.
use Rattle.std.specs.Prelude.{ℤ, Bool, ◌&&◌, List, [], ◌∷◌, map, int_le}
use Rattle.std.specs.Int.{int_min, int_max}
use Rattle.sheet.specs.declared.rows.Coords.{Coords}
use Rattle.sheet.specs.declared.rows.Face.{Face}
use Rattle.motion.specs.declared.shapes.Moving.{Moving}
use Rattle.motion.specs.Box.{coordinates, least, greatest}
use Rattle.inspection.specs.Sheets.{Sheet, point_at}
use Rattle.near_faces.specs.declared.boxes.SweptBox.{SweptBox}

-- ---- of some points
-- what f makes on each axis of their coordinates over start and end
abbrev pub on_axes : (List ℤ → ℤ) → List Moving → Coords
on_axes f ms =
    record {
      x = f (coordinates (λ v. v.x) ms);
      y = f (coordinates (λ v. v.y) ms);
      z = f (coordinates (λ v. v.z) ms);
    }

-- from their least to their greatest coordinates
abbrev pub box_around : List Moving → SweptBox
box_around ms = record { least = on_axes least ms; greatest = on_axes greatest ms }

-- ---- of a face, and of all faces in their order
abbrev pub corners : Sheet → Face → List Moving
corners s f = point_at s f.a ∷ point_at s f.b ∷ point_at s f.c ∷ []

abbrev pub swept_box : Sheet → Face → SweptBox
swept_box s f = box_around (corners s f)

abbrev pub swept_boxes : Sheet → List SweptBox
swept_boxes s = map (swept_box s) s.faces

-- ---- when two meet
-- on each axis
abbrev pub at_most : Coords → Coords → Bool
at_most a b = int_le a.x b.x && int_le a.y b.y && int_le a.z b.z

-- they overlap or touch on all three axes
abbrev pub meets : SweptBox → SweptBox → Bool
meets a b = at_most a.least b.greatest && at_most b.least a.greatest

-- ---- the least box around several
abbrev pub least_of : Coords → Coords → Coords
least_of a b = record { x = int_min a.x b.x; y = int_min a.y b.y; z = int_min a.z b.z }

abbrev pub greatest_of : Coords → Coords → Coords
greatest_of a b = record { x = int_max a.x b.x; y = int_max a.y b.y; z = int_max a.z b.z }

abbrev pub joined : SweptBox → SweptBox → SweptBox
joined a b =
    record { least = least_of a.least b.least; greatest = greatest_of a.greatest b.greatest }

-- there are some, so what the empty list has is never asked for
abbrev pub around : List SweptBox → SweptBox
around [] = box_around []
around (b ∷ []) = b
around (b ∷ c ∷ bs) = joined b (around (c ∷ bs))
