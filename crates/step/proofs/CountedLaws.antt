-- Coordinates as they count.
use Rattle.std.proofs.Common.{◌≡◌, true, ℤ, arith}
use Rattle.std.proofs.lemmas.Int.{ints}
use Rattle.std.proofs.lemmas.Bool.{and_from}
use Rattle.sheet.specs.Counted.{in_range, coordinate_of, counted, within}
use Rattle.sheet.specs.declared.rows.Coords.{Coords}

pub coordinate_of_same : (z : ℤ) → in_range z ≡ true → coordinate_of z ≡ z
coordinate_of_same z e = grind (arith, ints)

pub coordinate_of_within : (z : ℤ) → in_range (coordinate_of z) ≡ true
coordinate_of_within z = grind (arith, ints)

pub counted_within : (p : Coords) → within (counted p) ≡ true
counted_within p = and_from _ _ (coordinate_of_within p.x) (and_from _ _ (coordinate_of_within p.y) (coordinate_of_within p.z))
