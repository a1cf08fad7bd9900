-- Lines with no fault say a sheet.
use Rattle.std.proofs.Common.{◌≡◌, ℕ, ◌+◌, ◌-◌, ◌<◌, ◌≤◌, true, false, not, eqb, List, [], ◌∷◌, ◌++◌, length, ℤ, pos, None, sym, refl, arith}
use lib.Signed.{le_z}
use Rattle.std.specs.List.{All}
use Rattle.std.specs.Prelude.{unsigned_abs}
use Rattle.std.proofs.lemmas.List.Elements.{All-cons}
use Rattle.std.proofs.lemmas.Int.{ints}
use Rattle.std.proofs.lemmas.Bool.{and_parts, and_from, or_parts, not-false, ltb-true, eqb-false}
use Rattle.sheet.specs.Checks.{first_fit, check}
use Rattle.sheet.specs.IsSheet.{IsResting, IsTriangle, IsSheet}
use Rattle.sheet.specs.Lines.{Fields, Content, skipped, point, face, no_start, content_of}
use Rattle.sheet.specs.Numerals.{value_of}
use Rattle.sheet.specs.Sheet.{from_front, names_point, point_named, point_checks, face_checks, content_checks, point_from, face_from, element_from, element_of, point_row, face_row, points_below, faces_below, points_in, faces_in, counting, has_room, line_checks, lines_checks, no_rows, point_limit, face_limit}
use Rattle.sheet.specs.declared.counts.RowCounts.{RowCounts}
use Rattle.sheet.specs.declared.notices.Layer.TheVariants.{Sheet}
use Rattle.sheet.specs.declared.rows.Point.{Point}
use Rattle.sheet.specs.declared.rows.Face.{Face}
use Rattle.sheet.proofs.FirstFit.{none_parts, none_fits}

-- LINES

resting : (n : ℕ) (fs : Fields) → first_fit (point_checks n fs) ≡ None → IsResting (point_from fs)
resting n fs e =
    let (_, (x, (_, (y, (_, (z, _)))))) = none_fits (point_checks n fs) e in
    record { in_range = and_from _ _ (not-false _ x) (and_from _ _ (not-false _ y) (not-false _ z)); rests = refl }

named_below : (points : ℕ) (f : List ℕ) → not (names_point points f) ≡ false → point_named points f < points
named_below points f e =
    let n = from_front points (value_of f) in
    let p = and_parts (le_z (pos 1) n) (le_z n (pos points)) (not-false _ e) in below n p.0 p.1
  where
    below : (v : ℤ) → le_z (pos 1) v ≡ true → le_z v (pos points) ≡ true → unsigned_abs v - 1 < points
    below v p q = omega (arith, ints)

triangle : (n above points : ℕ) (fs : Fields) → above ≤ points → first_fit (face_checks n above fs) ≡ None → IsTriangle points (face_from above fs)
triangle n above points fs h e =
    let (_, (a, (_, (_, (b, (ab, (_, (c, (abc, _))))))))) = none_fits (face_checks n above fs) e in
    let others = or_parts (eqb (point_named above fs.first) (point_named above fs.third)) _ abc in
    record {
      a_exists = omega (arith, named_below above fs.first a);
      b_exists = omega (arith, named_below above fs.second b);
      c_exists = omega (arith, named_below above fs.third c);
      a_is_not_b = eqb-false _ _ (or_parts (eqb (point_named above fs.first) (point_named above fs.second)) false ab).0;
      a_is_not_c = eqb-false _ _ others.0;
      b_is_not_c = eqb-false _ _ (or_parts (eqb (point_named above fs.second) (point_named above fs.third)) false others.1).0;
    }

-- what lines below so many points and faces say, in such room
record Says (room above : RowCounts) (ps : List Point) (fs : List Face) : Type 0 where
  point_count : above.points ≤ room.points → above.points + length ps ≤ room.points
  face_count : above.faces ≤ room.faces → above.faces + length fs ≤ room.faces
  resting : All IsResting ps
  triangles : (n : ℕ) → above.points + length ps ≤ n → All (IsTriangle n) fs

by_content : (room above : RowCounts) (n : ℕ) (c : Content) (ps : List Point) (fs : List Face) → first_fit (content_checks n above.points c) ≡ None → has_room room above (element_from above.points c) ≡ true
    → Says room (counting above (element_from above.points c)) ps fs → Says room above (point_row (element_from above.points c) ++ ps) (face_row (element_from above.points c) ++ fs)
by_content room above n skipped ps fs e r s = s
by_content room above n no_start ps fs e r s = s
by_content room above n (point p) ps fs e r s =
    record {
      point_count = λ h. omega (arith, ltb-true _ _ r, s.point_count);
      face_count = s.face_count;
      resting = All-cons IsResting (point_from p) ps (resting n p e) s.resting;
      triangles = λ m h. s.triangles m (omega arith);
    }
by_content room above n (face f) ps fs e r s =
    record {
      point_count = s.point_count;
      face_count = λ h. omega (arith, ltb-true _ _ r, s.face_count);
      resting = s.resting;
      triangles = λ m h. All-cons (IsTriangle m) (face_from above.points f) fs (triangle n above.points m f (omega arith) e) (s.triangles m h);
    }

all_none : {X : Type 0} (P : X → Type 0) → All P []
all_none P k d h = absurd (omega arith)

says : (room above : RowCounts) (ls : List (ℕ × List ℕ)) → first_fit (lines_checks room above ls) ≡ None → Says room above (points_below above ls) (faces_below above ls)
says room above [] e =
    record { point_count = λ h. omega arith; face_count = λ h. omega arith; resting = all_none IsResting; triangles = λ n q. all_none (IsTriangle n) }
says room above (l ∷ ls) e =
    let both = none_parts (line_checks room above l) _ e in
    let line = none_parts (content_checks l.0 above.points (content_of l.1)) _ both.0 in
    let e = element_of above.points l.1 in
    let next = counting above e in
    let place = none_fits (check (not (has_room room above e)) 7 Sheet l.0 0 ∷ []) line.1 in
    by_content room above l.0 (content_of l.1) (points_below next ls) (faces_below next ls) line.0 (not-false _ place.0) (says room next ls both.1)

-- A SHEET

pub sound : (room : RowCounts) (ls : List (ℕ × List ℕ)) (points : List Point) (faces : List Face) → room.points ≤ point_limit → room.faces ≤ face_limit → None ≡ first_fit (lines_checks room no_rows ls) → points ≡ points_in ls → faces ≡ faces_in ls → IsSheet points faces
sound room ls points faces h k e p q =
    let s = says room no_rows ls (sym e) in
    let sheet : IsSheet (points_in ls) (faces_in ls)
    = record {
      point_count = omega (arith, s.point_count (omega arith));
      face_count = omega (arith, s.face_count (omega arith));
      resting = s.resting;
      triangles = s.triangles (length (points_in ls)) (omega arith);
    } in
    rw (p, q) sheet
