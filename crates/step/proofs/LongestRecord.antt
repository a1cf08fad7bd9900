-- The longest record that so many points have.
use Rattle.std.proofs.Common.{◌≡◌, ℕ, zero, suc, ◌*◌, ◌≤◌, List, [], ◌∷◌, ◌++◌, length, replicate, ℤ, refl, arith}
use Rattle.std.proofs.lemmas.List.{length-append}
use Rattle.sheet.specs.declared.rows.Coords.{Coords}
use Rattle.sheet.specs.declared.rows.Point.{Point}
use Rattle.step.specs.Limit.{mover}
use Rattle.step.specs.Record.{field_of, moves_record, moves_of, point_record, record_of}

field_most : (z : ℤ) → length (field_of z) ≤ 2
field_most z = grind arith

moves_most : (m : Coords) → length (moves_record m) ≤ 7
moves_most m =
    let x = field_most m.x in
    let y = field_most m.y in
    let z = field_most m.z in
    omega (arith, length-append (field_of m.x) (field_of m.y ++ field_of m.z), length-append (field_of m.y) (field_of m.z))

pub rows_most : (ps : List Point) → length (record_of ps) ≤ 7 * length ps
rows_most [] = omega arith
rows_most (p ∷ ps) = let a = rows_most ps in let b = moves_most (moves_of p) in omega (arith, length-append (point_record p) (record_of ps))

pub all_move : (m : ℕ) → length (record_of (replicate m mover)) ≡ 7 * m
all_move zero = refl
all_move (suc m) = let a = all_move m in omega (arith, length-append (point_record mover) (record_of (replicate m mover)))
