-- How a coordinate counts that stands in a row of a table: past a bound, as that bound.
use Rattle.std.specs.Prelude.{Bool, if◌then◌else◌, ◌&&◌, ℤ, pos, negsuc, int_le, int_lt}
use Rattle.sheet.specs.declared.rows.Coords.{Coords}

-- the bounds of a coordinate: −4,096 and 4,096
abbrev pub lower_bound : ℤ
lower_bound = negsuc 4095

abbrev pub upper_bound : ℤ
upper_bound = pos 4096

abbrev pub in_range : ℤ → Bool
in_range z = int_le lower_bound z && int_le z upper_bound

abbrev pub within : Coords → Bool
within p = in_range p.x && (in_range p.y && in_range p.z)

abbrev pub coordinate_of : ℤ → ℤ
coordinate_of z = if int_lt z lower_bound then lower_bound else if int_lt upper_bound z then upper_bound else z

abbrev pub counted : Coords → Coords
counted p = record { x = coordinate_of p.x; y = coordinate_of p.y; z = coordinate_of p.z }
