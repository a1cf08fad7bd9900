-- The format of a sheet: the checks at each spot of its text, and what a text says that passes
-- them all.
use Rattle.std.specs.Prelude.{ℕ, ◌+◌, ◌-◌, ◌+ℤ◌, min, Bool, true, not, if◌then◌else◌, ◌&&◌, List, [], ◌∷◌, ◌++◌, length, drop, ℤ, pos, ◌==◌, int_le, int_lt, nat_lt, unsigned_abs}
use Rattle.std.specs.List.{list_any, flat_map}
use Rattle.sheet.specs.Checks.{Check, check}
use Rattle.sheet.specs.Counted.{in_range}
use Rattle.sheet.specs.Lines.{numbered_lines, Fields, Content, skipped, point, face, no_start, content_of}
use Rattle.sheet.specs.Numerals.{is_magnitude, digits_of, value_of}
use Rattle.sheet.specs.declared.counts.RowCounts.{RowCounts}
use Rattle.sheet.specs.declared.drafts.Draft.{Draft}
use Rattle.sheet.specs.declared.faults.Spot.{Spot}
use Rattle.sheet.specs.declared.lines.Element.{Element}
use Rattle.sheet.specs.declared.lines.Element.TheVariants as element
use Rattle.sheet.specs.declared.notices.Layer.TheVariants.{Field, Line, Sheet}
use Rattle.sheet.specs.declared.rows.Coords.{Coords}
use Rattle.sheet.specs.declared.rows.Point.{Point}
use Rattle.sheet.specs.declared.rows.Face.{Face}

-- LIMITS

-- the most bytes of a text, points and faces of a sheet
abbrev pub text_limit : ℕ
text_limit = 65536

abbrev pub point_limit : ℕ
point_limit = 2048

abbrev pub face_limit : ℕ
face_limit = 4096

-- A FIELD

-- field k of line n; field 0 is the line as a whole
abbrev pub spot : ℕ → ℕ → Spot
spot n k = record { line = n; field = k }

abbrev pub magnitude_checks : Spot → List ℕ → List Check
magnitude_checks s ds = check (not (is_magnitude ds)) 1 Field s.line s.field ∷ []

abbrev pub numeral_checks : Spot → List ℕ → List Check
numeral_checks s f = magnitude_checks s (digits_of f)

abbrev pub coordinate_checks : Spot → List ℕ → List Check
coordinate_checks s f = numeral_checks s f ++ (check (not (in_range (value_of f))) 3 Line s.line s.field ∷ [])

-- a field of a face names one of the points above its line: n the nth from the front, −n the nth
-- latest, which is so many from the front
abbrev pub from_front : ℕ → ℤ → ℤ
from_front points n = if int_lt n (pos 0) then pos (points + 1) +ℤ n else n

abbrev pub names_point : ℕ → List ℕ → Bool
names_point points f =
    let n = from_front points (value_of f) in
    int_le (pos 1) n && int_le n (pos points)

-- in a row points are numbered from 0
abbrev pub point_named : ℕ → List ℕ → ℕ
point_named points f = unsigned_abs (from_front points (value_of f)) - 1

abbrev pub corner_checks : ℕ → Spot → List ℕ → List ℕ → List Check
corner_checks points s earlier f =
    numeral_checks s f
    ++ (check (not (names_point points f)) 4 Line s.line s.field
    ∷ (check (list_any (λ e. e == point_named points f) earlier) 5 Line s.line s.field
    ∷ []))

-- A LINE

-- the checks of line n, field by field, where so many points stand above it

abbrev pub point_checks : ℕ → Fields → List Check
point_checks n fs =
    coordinate_checks (spot n 1) fs.first
    ++ (coordinate_checks (spot n 2) fs.second
    ++ coordinate_checks (spot n 3) fs.third)

abbrev pub face_checks : ℕ → ℕ → Fields → List Check
face_checks n points fs =
    let first = point_named points fs.first in
    let second = point_named points fs.second in
    corner_checks points (spot n 1) [] fs.first
    ++ (corner_checks points (spot n 2) (first ∷ []) fs.second
    ++ corner_checks points (spot n 3) (first ∷ second ∷ []) fs.third)

abbrev pub content_checks : ℕ → ℕ → Content → List Check
content_checks n points skipped = []
content_checks n points (point fs) = point_checks n fs
content_checks n points (face fs) = face_checks n points fs
content_checks n points no_start = check true 2 Line n 0 ∷ []

-- what a line says that passes them, where so many points stand above it

abbrev pub at_rest : Coords → Point
at_rest p = record { start = p; end = p }

abbrev pub point_from : Fields → Point
point_from fs =
    at_rest (record { x = value_of fs.first; y = value_of fs.second; z = value_of fs.third })

abbrev pub face_from : ℕ → Fields → Face
face_from points fs =
    record {
      a = point_named points fs.first;
      b = point_named points fs.second;
      c = point_named points fs.third;
    }

abbrev pub element_from : ℕ → Content → Element
element_from points skipped = element.Nothing
element_from points (point fs) = element.Point (point_from fs)
element_from points (face fs) = element.Face (face_from points fs)
element_from points no_start = element.Nothing

abbrev pub element_of : ℕ → List ℕ → Element
element_of points l = element_from points (content_of l)

-- A SHEET

-- the points and the faces of what lines say, in their order

abbrev pub point_row : Element → List Point
point_row element.Nothing = []
point_row (element.Point p) = p ∷ []
point_row (element.Face f) = []

abbrev pub face_row : Element → List Face
face_row element.Nothing = []
face_row (element.Point p) = []
face_row (element.Face f) = f ∷ []

abbrev pub no_rows : RowCounts
no_rows = record { points = 0; faces = 0 }

-- what stands above a line, and what the line says
abbrev pub counting : RowCounts → Element → RowCounts
counting above element.Nothing = above
counting above (element.Point p) = record { points = above.points + 1; faces = above.faces }
counting above (element.Face f) = record { points = above.points; faces = above.faces + 1 }

-- what numbered lines say, one below the other
abbrev pub elements_below : RowCounts → List (ℕ × List ℕ) → List Element
elements_below above [] = []
elements_below above (l ∷ ls) =
    let e = element_of above.points l.1 in e ∷ elements_below (counting above e) ls

abbrev pub points_below : RowCounts → List (ℕ × List ℕ) → List Point
points_below above ls = flat_map point_row (elements_below above ls)

abbrev pub faces_below : RowCounts → List (ℕ × List ℕ) → List Face
faces_below above ls = flat_map face_row (elements_below above ls)

abbrev pub points_in : List (ℕ × List ℕ) → List Point
points_in ls = points_below no_rows ls

abbrev pub faces_in : List (ℕ × List ℕ) → List Face
faces_in ls = faces_below no_rows ls

-- there is room for what a line says, after what stands above it
abbrev pub has_room : RowCounts → RowCounts → Element → Bool
has_room room above element.Nothing = true
has_room room above (element.Point p) = nat_lt above.points room.points
has_room room above (element.Face f) = nat_lt above.faces room.faces

-- all checks of a numbered line, below what stands above it
abbrev pub line_checks : RowCounts → RowCounts → ℕ × List ℕ → List Check
line_checks room above l =
    content_checks l.0 above.points (content_of l.1)
    ++ (check (not (has_room room above (element_of above.points l.1))) 7 Sheet l.0 0
    ∷ [])

-- those of one line after another
abbrev pub lines_checks : RowCounts → RowCounts → List (ℕ × List ℕ) → List Check
lines_checks room above [] = []
lines_checks room above (l ∷ ls) =
    line_checks room above l ++ lines_checks room (counting above (element_of above.points l.1)) ls

-- the room in tables of so many rows
abbrev pub room_in : ℕ → ℕ → RowCounts
room_in points faces = record { points = min points point_limit; faces = min faces face_limit }

-- all checks of a text, for such tables
abbrev pub sheet_checks : List ℕ → ℕ → ℕ → List Check
sheet_checks text points faces =
    check (nat_lt text_limit (length text)) 6 Sheet 0 0
    ∷ lines_checks (room_in points faces) no_rows (numbered_lines text)

-- the draft of a text that passes them
abbrev pub draft_of : List ℕ → Draft
draft_of text =
    let ls = numbered_lines text in
    record { points = length (points_in ls); faces = length (faces_in ls) }

-- rows in place of the first of a table, and the rest of it
abbrev pub onto_front : {X : Type 0} → List X → List X → List X
onto_front rows table = rows ++ drop (length rows) table
