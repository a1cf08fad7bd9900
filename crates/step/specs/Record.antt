-- Which bytes are the record of a row of points.
use Rattle.std.specs.Prelude.{ℕ, ◌+◌, ◌/◌, ◌%◌, Bool, if◌then◌else◌, not, List, [], ◌∷◌, ◌++◌, ℤ, ◌-ℤ◌, ◌==◌}
use Rattle.std.proofs.Common.{of_z}
use Rattle.std.specs.Int.{w16}
use Rattle.std.specs.List.{flat_map}
use Rattle.sheet.specs.Counted.{coordinate_of}
use Rattle.sheet.specs.declared.rows.Coords.{Coords}
use Rattle.sheet.specs.declared.rows.Point.{Point}

-- how far a coordinate goes, from its start to its end as they count
abbrev pub move_of : ℤ → ℤ → ℤ
move_of s e = coordinate_of e -ℤ coordinate_of s

abbrev pub moves_of : Point → Coords
moves_of p =
    record {
      x = move_of p.start.x p.end.x;
      y = move_of p.start.y p.end.y;
      z = move_of p.start.z p.end.z;
    }

-- a move in two's complement: 16 bits, as a number
abbrev pub word : ℤ → ℕ
word z = of_z w16 z

abbrev pub is_zero : ℤ → Bool
is_zero z = word z == 0

-- a field: nothing for a move of zero, else the move's two bytes, the lower first
abbrev pub field_of : ℤ → List ℕ
field_of z = if is_zero z then [] else word z % 256 ∷ (word z / 256 % 256 ∷ [])

-- the bit of an axis stands where the move is not zero
abbrev pub bit_of : ℤ → ℕ → ℕ
bit_of z k = if is_zero z then 0 else k

abbrev pub map_byte : Coords → ℕ
map_byte m = bit_of m.x 1 + bit_of m.y 2 + bit_of m.z 4

-- a point moves
abbrev pub is_moving : Point → Bool
is_moving p = not (map_byte (moves_of p) == 0)

-- the map byte, then the fields of x, y and z
abbrev pub moves_record : Coords → List ℕ
moves_record m = map_byte m ∷ (field_of m.x ++ (field_of m.y ++ field_of m.z))

abbrev pub point_record : Point → List ℕ
point_record p = moves_record (moves_of p)

abbrev pub record_of : List Point → List ℕ
record_of ps = flat_map point_record ps
