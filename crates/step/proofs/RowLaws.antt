-- One row: what is written of it reads back, and what is read is what is written.
use Rattle.std.proofs.Common.{◌≡◌, ℕ, ◌+◌, ◌<◌, Bool, true, false, cond, not, eqb, ltb, List, [], ◌∷◌, ◌++◌, length, drop, ◌-ℤ◌, None, sym, ap, ◌∙◌, subst, arith}
use Rattle.sheet.specs.declared.notices.Layer.TheVariants.{Step}
use Rattle.std.proofs.lemmas.List.{append_assoc, get_or-drop}
use Rattle.std.proofs.lemmas.Bool.{ne_eqb, ltb-false, and_from, and_parts}
use Rattle.std.proofs.lemmas.Bool.Decides.{nat_tests}
use Rattle.sheet.specs.Checks.{Check, first_fit, check}
use Rattle.sheet.specs.Counted.{in_range, counted, within}
use Rattle.sheet.specs.declared.rows.Coords.{Coords}
use Rattle.sheet.specs.declared.rows.Point.{Point}
use Rattle.sheet.proofs.FirstFit.{first_fit_append, no_fit, none_parts}
use Rattle.step.specs.Laying.{field_checks, after_field, bit_stands, after_x, after_y, after_fields, fields_checks, ends_of, row_checks, end_of, after_row, row_spot}
use Rattle.step.specs.Record.{is_zero, field_of, map_byte, moves_record}
use Rattle.step.proofs.CountedLaws.{counted_within}
use Rattle.step.proofs.FieldLaws.{Bytes, field_back, field_only}

-- how far each coordinate goes
abbrev pub distance : Coords → Coords → Coords
distance s e = record { x = e.x -ℤ s.x; y = e.y -ℤ s.y; z = e.z -ℤ s.z }

-- THE MAP

abbrev bits : Bool → Bool → Bool → ℕ
bits a b c = cond a 0 1 + cond b 0 2 + cond c 0 4

-- each bit stands where its axis moves, and there is no other
map_of : (a b c : Bool) → (bit_stands (bits a b c) 1 ≡ not a) × (bit_stands (bits a b c) 2 ≡ not b) × (bit_stands (bits a b c) 4 ≡ not c) × (ltb 7 (bits a b c) ≡ false)
map_of a b c = (grind arith, grind arith, grind arith, grind arith)

bits_are : (m : ℕ) (a b c : Bool) → m < 8 → a ≡ not (bit_stands m 1) → b ≡ not (bit_stands m 2) → c ≡ not (bit_stands m 4) → bits a b c ≡ m
bits_are m a b c h p q r = grind (arith, nat_tests)

-- WHAT IS WRITTEN READS BACK

pub record RowBack (i : ℕ) (p : Point) (e : Coords) (bs r : List ℕ) : Type 0 where
  pub good : first_fit (row_checks i p bs) ≡ None
  pub end : end_of p bs ≡ e
  pub rest : after_row bs ≡ r

pub none_append : (cs ds : List Check) → first_fit cs ≡ None → first_fit ds ≡ None → first_fit (cs ++ ds) ≡ None
none_append cs ds e f = rw (first_fit_append cs ds, e) f

pub row_back : (i : ℕ) (p : Point) (e : Coords) (r : List ℕ) → within e ≡ true → RowBack i p e (moves_record (distance (counted p.start) e) ++ r) r
row_back i p e r q =
    let s = counted p.start in
    let sx = and_parts (in_range s.x) _ (counted_within p.start) in
    let sy = and_parts (in_range s.y) (in_range s.z) sx.1 in
    let ex = and_parts (in_range e.x) _ q in
    let ey = and_parts (in_range e.y) (in_range e.z) ex.1 in
    let m = distance s e in
    let n = map_byte m in
    let bits = map_of (is_zero m.x) (is_zero m.y) (is_zero m.z) in
    let fx = field_of m.x in
    let fy = field_of m.y in
    let fz = field_of m.z in
    let xs = (fx ++ (fy ++ fz)) ++ r in
    let hx = field_back (row_spot i 1) (bit_stands n 1) s.x e.x xs (fy ++ (fz ++ r)) sx.0 ex.0 bits.0 (append_assoc fx (fy ++ fz) r ∙ ap (λ l. fx ++ l) (append_assoc fy fz r)) in
    let hy = field_back (row_spot i 2) (bit_stands n 2) s.y e.y (after_x n xs) (fz ++ r) sy.0 ey.0 bits.1 hx.rest in
    let hz = field_back (row_spot i 3) (bit_stands n 4) s.z e.z (after_y n xs) r sy.1 ey.1 bits.2 hy.rest in
    record {
      good = rw (ne_eqb (length (n ∷ xs)) 0 (λ h. omega arith), bits.3, first_fit_append, hx.good, first_fit_append, hy.good) hz.good;
      end = λ j. record { x = hx.end j; y = hy.end j; z = hz.end j };
      rest = hz.rest;
    }

-- WHAT IS READ IS WHAT IS WRITTEN

bytes_drop : (k : ℕ) (bs : List ℕ) → Bytes bs → Bytes (drop k bs)
bytes_drop k bs B j = subst (λ v. v < 256) (sym (get_or-drop k bs j 0)) (B (k + j))

bytes_after : (b : Bool) (bs : List ℕ) → Bytes bs → Bytes (after_field b bs)
bytes_after true bs B = bytes_drop 2 bs B
bytes_after false bs B = B

pub record RowOnly (p : Point) (bs : List ℕ) : Type 0 where
  pub ranges : within (end_of p bs) ≡ true
  pub bytes : moves_record (distance (counted p.start) (end_of p bs)) ++ after_row bs ≡ bs
  pub rest : Bytes (after_row bs)

pub row_only : (i : ℕ) (p : Point) (bs : List ℕ) → Bytes bs → first_fit (row_checks i p bs) ≡ None → RowOnly p bs
row_only i p [] B g = cc
row_only i p (m ∷ xs) B g =
    let s = counted p.start in
    let sx = and_parts (in_range s.x) _ (counted_within p.start) in
    let sy = and_parts (in_range s.y) (in_range s.z) sx.1 in
    let small = check (ltb 7 m) 9 Step i 0 in
    let c8 = no_fit (check (eqb (length (m ∷ xs)) 0) 8 Step i 0) (small ∷ fields_checks m i s xs) g in
    let c9 = no_fit small (fields_checks m i s xs) c8.1 in
    let x = none_parts (field_checks (row_spot i 1) (bit_stands m 1) s.x xs) _ c9.1 in
    let y = none_parts (field_checks (row_spot i 2) (bit_stands m 2) s.y (after_x m xs)) _ x.1 in
    let Bx = bytes_drop 1 (m ∷ xs) B in
    let By = bytes_after (bit_stands m 1) xs Bx in
    let Bz = bytes_after (bit_stands m 2) (after_x m xs) By in
    let wx = field_only (row_spot i 1) (bit_stands m 1) s.x xs Bx sx.0 x.0 in
    let wy = field_only (row_spot i 2) (bit_stands m 2) s.y (after_x m xs) By sy.0 y.0 in
    let wz = field_only (row_spot i 3) (bit_stands m 4) s.z (after_y m xs) Bz sy.1 y.1 in
    let e = ends_of m s xs in
    let d = distance s e in
    let fx = field_of d.x in
    let fy = field_of d.y in
    let fz = field_of d.z in
    let map : map_byte d ≡ m = bits_are m (is_zero d.x) (is_zero d.y) (is_zero d.z) (omega (arith, ltb-false 7 m c9.0)) wx.bit wy.bit wz.bit in
    let fields : (fx ++ (fy ++ fz)) ++ after_fields m xs ≡ xs
    = append_assoc fx (fy ++ fz) (after_fields m xs) ∙ ap (λ l. fx ++ l) (append_assoc fy fz (after_fields m xs) ∙ ap (λ l. fy ++ l) wz.bytes ∙ wy.bytes) ∙ wx.bytes in
    record {
      ranges = and_from (in_range e.x) _ wx.ranges (and_from (in_range e.y) (in_range e.z) wy.ranges wz.ranges);
      bytes = λ j. map j ∷ fields j;
      rest = bytes_after (bit_stands m 4) (after_y m xs) Bz;
    }
