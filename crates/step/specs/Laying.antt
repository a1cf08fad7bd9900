-- Laying a record onto points: the checks at each spot of it, and the ends that it gives.
use Rattle.std.specs.Prelude.{ℕ, ◌+◌, ◌*◌, ◌/◌, ◌%◌, Bool, not, if◌then◌else◌, List, [], ◌∷◌, ◌++◌, length, take, drop, ℤ, ◌+ℤ◌, ◌==◌, nat_lt, slice_index}
use Rattle.std.proofs.Common.{to_z}
use Rattle.std.specs.Int.{w16}
use Rattle.sheet.specs.Checks.{Check, check}
use Rattle.sheet.specs.Counted.{counted, in_range}
use Rattle.sheet.specs.declared.notices.Layer.TheVariants.{Step}
use Rattle.sheet.specs.declared.rows.Coords.{Coords}
use Rattle.sheet.specs.declared.rows.Point.{Point}
use Rattle.step.specs.Record.{is_zero}
use Rattle.step.specs.declared.faults.Spot.{Spot}

-- field k of point i; field 0 is the map
abbrev pub row_spot : ℕ → ℕ → Spot
row_spot i k = record { point = i; field = k }

-- A FIELD

-- the move that the first two bytes are
abbrev pub move_in : List ℕ → ℤ
move_in bs = to_z w16 (slice_index bs 0 + slice_index bs 1 * 256)

-- the checks of a field whose bit stands, or of one that is not there; s is the start as it counts
abbrev pub field_checks : Spot → Bool → ℤ → List ℕ → List Check
field_checks a stands s bs =
    if stands then
    check (nat_lt (length bs) 2) 8 Step a.point a.field
    ∷ (check (is_zero (move_in bs)) 10 Step a.point a.field
    ∷ (check (not (in_range (s +ℤ move_in bs))) 11 Step a.point a.field
    ∷ []))
    else []

-- the end that it gives, and the bytes after it
abbrev pub end_in : Bool → ℤ → List ℕ → ℤ
end_in stands s bs = if stands then s +ℤ move_in bs else s

abbrev pub after_field : Bool → List ℕ → List ℕ
after_field stands bs = if stands then drop 2 bs else bs

-- THE FIELDS OF A ROW

-- bit k of a map stands: k is 1, 2 or 4
abbrev pub bit_stands : ℕ → ℕ → Bool
bit_stands map k = not (map / k % 2 == 0)

-- ---- the fields behind a map m, one after the other
module _ (m : ℕ) where
  -- what stands behind the fields of x and of y
  abbrev pub after_x : List ℕ → List ℕ
  after_x xs = after_field (bit_stands m 1) xs

  abbrev pub after_y : List ℕ → List ℕ
  after_y xs = after_field (bit_stands m 2) (after_x xs)

  abbrev pub after_fields : List ℕ → List ℕ
  after_fields xs = after_field (bit_stands m 4) (after_y xs)

  -- the checks of the fields of point i, which counts to start at s
  abbrev pub fields_checks : ℕ → Coords → List ℕ → List Check
  fields_checks i s xs =
      field_checks (row_spot i 1) (bit_stands m 1) s.x xs
      ++ (field_checks (row_spot i 2) (bit_stands m 2) s.y (after_x xs)
      ++ field_checks (row_spot i 3) (bit_stands m 4) s.z (after_y xs))

  -- the end that they give
  abbrev pub ends_of : Coords → List ℕ → Coords
  ends_of s xs =
      record {
        x = end_in (bit_stands m 1) s.x xs;
        y = end_in (bit_stands m 2) s.y (after_x xs);
        z = end_in (bit_stands m 4) s.z (after_y xs);
      }

-- A ROW

abbrev pub map_in : List ℕ → ℕ
map_in bs = slice_index bs 0

-- the checks of the row of point i, its end, and what follows it in the record

abbrev pub row_checks : ℕ → Point → List ℕ → List Check
row_checks i p bs =
    check (length bs == 0) 8 Step i 0
    ∷ (check (nat_lt 7 (map_in bs)) 9 Step i 0
    ∷ fields_checks (map_in bs) i (counted p.start) (drop 1 bs))

abbrev pub end_of : Point → List ℕ → Coords
end_of p bs = ends_of (map_in bs) (counted p.start) (drop 1 bs)

abbrev pub after_row : List ℕ → List ℕ
after_row bs = after_fields (map_in bs) (drop 1 bs)

-- the row with its new end; its start keeps what it holds
abbrev pub with_end : Point → List ℕ → Point
with_end p bs = record { start = p.start; end = end_of p bs }

-- A TABLE

-- the checks of rows from point i on: no byte follows the last
abbrev pub rows_checks : ℕ → List Point → List ℕ → List Check
rows_checks i [] bs = check (not (length bs == 0)) 12 Step 0 0 ∷ []
rows_checks i (p ∷ ps) bs = row_checks i p bs ++ rows_checks (i + 1) ps (after_row bs)

abbrev pub with_ends : List Point → List ℕ → List Point
with_ends [] bs = []
with_ends (p ∷ ps) bs = with_end p bs ∷ with_ends ps (after_row bs)

-- all checks of a record, for the first n rows of a table
abbrev pub lay_checks : ℕ → List Point → List ℕ → List Check
lay_checks n points bs =
    check (nat_lt (length points) n) 13 Step 0 0 ∷ rows_checks 0 (take n points) bs
