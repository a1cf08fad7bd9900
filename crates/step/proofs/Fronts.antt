-- The front of a record that is too long decides as the whole does.
use Rattle.std.proofs.Common.{◌≡◌, ℕ, ◌+◌, ◌-◌, ◌*◌, ◌<◌, ◌≤◌, ℤ, ◌+ℤ◌, Bool, true, false, not, if◌then◌else◌, ltb, List, [], ◌∷◌, ◌++◌, length, take, drop, slice_index, Some, None, nat_lt, ◌==◌, refl, sym, ap, ◌∙◌, subst, arith, length-take, length-drop}
use Rattle.sheet.specs.declared.notices.Layer.TheVariants.{Step}
use Rattle.std.proofs.lemmas.List.{take_all, get_or-take, drop-take}
use Rattle.std.proofs.lemmas.Bool.Decides.{nat_tests}
use Rattle.std.proofs.lemmas.Bool.{eqb-true, not-false}
use Rattle.std.specs.Option.{option_or}
use Rattle.sheet.specs.Checks.{first_fit, check}
use Rattle.sheet.specs.Counted.{counted, in_range}
use Rattle.sheet.specs.declared.rows.Point.{Point}
use Rattle.sheet.proofs.FirstFit.{first_fit_append, no_fit, none_parts}
use Rattle.step.specs.Laying.{move_in, field_checks, after_field, bit_stands, after_x, after_y, after_fields, fields_checks, map_in, row_checks, after_row, rows_checks, lay_checks, row_spot}
use Rattle.step.specs.Record.{is_zero}
use Rattle.step.specs.declared.faults.Spot.{Spot}

-- ys is a front of xs, of n bytes or more where xs has so many
record Front (n : ℕ) (ys xs : List ℕ) : Type 0 where
  size : ℕ
  enough : n ≤ size
  is : ys ≡ take size xs

-- ---- a field looks at two bytes, and takes them if its bit stands
module _ (n : ℕ) {ys xs : List ℕ} (f : Front (n + 2) ys xs) where
  field_front : (a : Spot) (stands : Bool) (s : ℤ) → field_checks a stands s ys ≡ field_checks a stands s xs
  field_front a false s = refl
  field_front a true s = λ i. check (short i) 8 Step a.point a.field ∷ (check (is_zero (move_in (low i ∷ high i ∷ []))) 10 Step a.point a.field ∷ (check (not (in_range (s +ℤ move_in (low i ∷ high i ∷ [])))) 11 Step a.point a.field ∷ []))
    where
      short : ltb (length ys) 2 ≡ ltb (length xs) 2
      short = ap (λ l. ltb (length l) 2) f.is ∙ (let l = length-take f.size xs in grind (arith, nat_tests))

      at : (i : ℕ) → i < 2 → slice_index ys i ≡ slice_index xs i
      at i h = ap (λ l. slice_index l i) f.is ∙ get_or-take f.size xs i 0 (omega arith)

      low : slice_index ys 0 ≡ slice_index xs 0
      low = at 0 (omega arith)

      high : slice_index ys 1 ≡ slice_index xs 1
      high = at 1 (omega arith)

  after_front : (stands : Bool) → Front n (after_field stands ys) (after_field stands xs)
  after_front false = record { size = f.size; enough = omega arith; is = f.is }
  after_front true =
      record { size = f.size - 2; enough = omega arith; is = ap (drop 2) f.is ∙ ap (λ k. drop 2 (take k xs)) (omega arith) ∙ drop-take 2 (f.size - 2) xs }

-- ---- a row looks at seven bytes at most
module _ (n : ℕ) {ys bs : List ℕ} (f : Front (n + 8) ys bs) where
  map : map_in ys ≡ map_in bs
  map = ap map_in f.is ∙ get_or-take f.size bs 0 0 (omega arith)

  fields : Front (n + 1 + 2 + 2 + 2) (drop 1 ys) (drop 1 bs)
  fields = record { size = f.size - 1; enough = omega arith; is = ap (drop 1) f.is ∙ ap (λ k. drop 1 (take k bs)) (omega arith) ∙ drop-take 1 (f.size - 1) bs }

  behind_x : Front (n + 1 + 2 + 2) (after_x (map_in bs) (drop 1 ys)) (after_x (map_in bs) (drop 1 bs))
  behind_x = after_front (n + 1 + 2 + 2) fields (bit_stands (map_in bs) 1)

  behind_y : Front (n + 1 + 2) (after_y (map_in bs) (drop 1 ys)) (after_y (map_in bs) (drop 1 bs))
  behind_y = after_front (n + 1 + 2) behind_x (bit_stands (map_in bs) 2)

  behind_row : Front (n + 1) (after_row ys) (after_row bs)
  behind_row = subst (λ m. Front (n + 1) (after_fields m (drop 1 ys)) (after_row bs)) (sym map) (after_front (n + 1) behind_y (bit_stands (map_in bs) 4))

  row_front : (i : ℕ) (p : Point) → row_checks i p ys ≡ row_checks i p bs
  row_front i p =
      let s = counted p.start in
      let fx = field_front (n + 1 + 2 + 2) fields (row_spot i 1) (bit_stands (map_in bs) 1) s.x in
      let fy = field_front (n + 1 + 2) behind_x (row_spot i 2) (bit_stands (map_in bs) 2) s.y in
      let fz = field_front (n + 1) behind_y (row_spot i 3) (bit_stands (map_in bs) 4) s.z in
      (λ j. check (empty j) 8 Step i 0 ∷ (check (nat_lt 7 (map j)) 9 Step i 0 ∷ fields_checks (map j) i s (drop 1 ys)))
      ∙ (λ j. check (length bs == 0) 8 Step i 0 ∷ (check (nat_lt 7 (map_in bs)) 9 Step i 0 ∷ (fx j ++ (fy j ++ fz j))))
    where
      empty : (length ys == 0) ≡ (length bs == 0)
      empty = ap (λ l. length l == 0) f.is ∙ (let l = length-take f.size bs in grind (arith, nat_tests))

shorter : (stands : Bool) (xs : List ℕ) → length xs ≤ length (after_field stands xs) + 2
shorter stands xs = let l = length-drop 2 xs in grind arith

row_length : (bs : List ℕ) → length bs ≤ length (after_row bs) + 7
row_length bs =
    let n = map_in bs in
    let xs = drop 1 bs in
    let x = shorter (bit_stands n 1) xs in
    let y = shorter (bit_stands n 2) (after_x n xs) in
    let z = shorter (bit_stands n 4) (after_y n xs) in
    omega (arith, length-drop 1 bs, x, y, z)

-- ---- rows, so many bytes after which no more can be needed
rows_front : (i : ℕ) (ps : List Point) (ys bs : List ℕ) → Front (7 * length ps + 1) ys bs → first_fit (rows_checks i ps ys) ≡ first_fit (rows_checks i ps bs)
rows_front i [] ys bs f =
    ap (λ l. first_fit (check (not (length l == 0)) 12 Step 0 0 ∷ [])) f.is ∙ ap (λ b. first_fit (check (not b) 12 Step 0 0 ∷ [])) (let l = length-take f.size bs in grind (arith, nat_tests))
rows_front i (p ∷ ps) ys bs f =
    let g : Front (7 * length ps + 8) ys bs = record { size = f.size; enough = omega arith; is = f.is } in
    let row = row_front (7 * length ps) g i p in
    let rest = rows_front (i + 1) ps (after_row ys) (after_row bs) (behind_row (7 * length ps) g) in
    first_fit_append (row_checks i p ys) (rows_checks (i + 1) ps (after_row ys))
    ∙ (λ j. option_or (first_fit (row j)) (rest j))
    ∙ sym (first_fit_append (row_checks i p bs) (rows_checks (i + 1) ps (after_row bs)))

rows_length : (i : ℕ) (ps : List Point) (bs : List ℕ) → first_fit (rows_checks i ps bs) ≡ None → length bs ≤ 7 * length ps
rows_length i [] bs e =
    let none = no_fit (check (not (length bs == 0)) 12 Step 0 0) [] e in
    let zero : length bs ≡ 0 = eqb-true (length bs) 0 (not-false (length bs == 0) none.0) in
    omega (arith, zero)
rows_length i (p ∷ ps) bs e =
    let both = none_parts (row_checks i p bs) (rows_checks (i + 1) ps (after_row bs)) e in
    let more = rows_length (i + 1) ps (after_row bs) both.1 in
    let row = row_length bs in
    omega (arith, more, row)

-- ---- a record, for n rows at most
module _ (n : ℕ) (ps : List Point) (k : ℕ) (bs : List ℕ) (enough : 7 * n < k) where
  pub front_decides : first_fit (lay_checks n ps (take k bs)) ≡ first_fit (lay_checks n ps bs)
  front_decides =
      ap (λ o. if nat_lt (length ps) n then Some (check true 13 Step 0 0).tells else o) (rows_front 0 (take n ps) (take k bs) bs front)
    where
      front : Front (7 * length (take n ps) + 1) (take k bs) bs
      front = record { size = k; enough = omega (arith, length-take n ps, enough); is = refl }

  pub front_is_whole : first_fit (lay_checks n ps bs) ≡ None → take k bs ≡ bs
  front_is_whole none =
      let rest = no_fit (check (nat_lt (length ps) n) 13 Step 0 0) (rows_checks 0 (take n ps) bs) none in
      let h = rows_length 0 (take n ps) bs rest.1 in
      take_all k bs (omega (arith, h, length-take n ps, enough))
