-- A sheet and its step, as they lie in the first rows of a caller's tables.
use Rattle.std.specs.Prelude.{ℕ, List, map, take, pos, slice_index_or}
use Rattle.sheet.specs.declared.rows.Coords.{Coords}
use Rattle.sheet.specs.declared.rows.Point.{Point}
use Rattle.sheet.specs.declared.rows.Face.{Face}
use Rattle.sheet.specs.declared.drafts.Draft.{Draft}
use Rattle.sheet.specs.Counted.{coordinate_of}
use Rattle.motion.specs.declared.shapes.V3.{V3}
use Rattle.motion.specs.declared.shapes.Moving.{Moving}
use Rattle.inspection.specs.declared.sheets.Rows.{Rows}

-- a position, each coordinate as it counts
abbrev pub position_of : Coords → V3
position_of c = record { x = coordinate_of c.x; y = coordinate_of c.y; z = coordinate_of c.z }

abbrev pub moving_of : Point → Moving
moving_of p = record { start = position_of p.start; end = position_of p.end }

-- its points, from start to end as they count, and its faces
pub record Sheet : Type 0 where
  pub points : List Moving
  pub faces : List Face

abbrev pub sheet_of : List Point → List Face → Sheet
sheet_of ps fs = record { points = map moving_of ps; faces = fs }

-- the first rows of two tables, as many as the draft counts
abbrev pub sheet_in : Draft → List Point → List Face → Sheet
sheet_in d ps fs = sheet_of (take d.points ps) (take d.faces fs)

-- the sheet that these rows are
abbrev pub sheet_of_rows : Rows → Sheet
sheet_of_rows r = sheet_of r.points.now r.faces.now

-- past the end of a table: never asked for
abbrev pub no_position : Coords
no_position = record { x = pos 0; y = pos 0; z = pos 0 }

abbrev pub nowhere : Point
nowhere = record { start = no_position; end = no_position }

abbrev pub no_face : Face
no_face = record { a = 0; b = 0; c = 0 }

abbrev pub point_at : Sheet → ℕ → Moving
point_at s i = slice_index_or s.points i (moving_of nowhere)

abbrev pub face_at : Sheet → ℕ → Face
face_at s i = slice_index_or s.faces i no_face
