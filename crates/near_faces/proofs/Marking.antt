-- The pairs of a run of which some faces are marked, written one after another.
use Rattle.std.proofs.Common.{◌≡◌, ℕ, zero, suc, ◌+◌, ◌-◌, ◌*◌, ◌<◌, ◌≤◌, min, Bool, true, false, ◌&&◌, cond, List, [], ◌∷◌, ◌++◌, length, map, get_or, set, take, drop, refl, sym, ap, ◌∙◌, arith, append-nil, length-append, length-drop, take-append-drop, add-zero, length-take-le, lt-ltb}
use Rattle.std.specs.List.{count_by, list_any}
use Rattle.std.proofs.Math.Seq.{take-add}
use Rattle.std.proofs.lemmas.List.{take_more, take_all, drop_all, take_rest}
use Rattle.std.proofs.lemmas.List.Sums.{sum_by-cons, count_by_more_yes, count_by_more_no}
use mir.Val.{bool_byte}
use Rattle.near_faces.specs.declared.boxes.SweptBox.{SweptBox}
use Rattle.near_faces.specs.declared.pairs.Pair.{Pair}
use Rattle.near_faces.specs.Boxes.{meets}
use Rattle.near_faces.specs.Near.{pair, near_to}
use Rattle.near_faces.specs.inner.Listing.{marked, put}
use Rattle.near_faces.proofs.Listing.{cond-append, length-put, put_halves, nothing_after}
use borrow.Rule.Slice.PartMut.{put_mid}

-- ---- what is marked
-- those of later faces whose boxes meet b
pub marked_near : (i : ℕ) (b : SweptBox) (f : ℕ) (run : List SweptBox) → i < f → marked i f (map (meets b) run) ≡ near_to i b f run
marked_near i b f [] h = refl
marked_near i b f (c ∷ cs) h =
    let later = near_to i b (f + 1) cs in
    let rest = marked_near i b (f + 1) cs (omega arith) in
    (λ j. cond (meets b c) (pair i f ∷ rest j) (rest j)) ∙ ap (λ t. cond (t && meets b c) (pair i f ∷ later) later) (sym (lt-ltb i f h))

length-cond : {A : Type 0} (t : Bool) (x : A) (xs : List A) → length (cond t (x ∷ xs) xs) ≡ cond t 1 0 + length xs
length-cond true x xs = omega arith
length-cond false x xs = omega arith

pub count_near : (i : ℕ) (b : SweptBox) (f : ℕ) (run : List SweptBox) → i < f → length (near_to i b f run) ≡ count_by (meets b) run
count_near i b f [] h = refl
count_near i b f (c ∷ cs) h =
    let later = near_to i b (f + 1) cs in
    ap (λ t. length (cond (t && meets b c) (pair i f ∷ later) later)) (lt-ltb i f h)
    ∙ length-cond (meets b c) (pair i f) later
    ∙ ap (λ (n : ℕ). cond (meets b c) 1 0 + n) (count_near i b (f + 1) cs (omega arith))
    ∙ sym (sum_by-cons (λ (x : SweptBox). cond (meets b x) 1 0) c cs)

pub marked-append : (i f : ℕ) (ms ns : List Bool) → marked i f (ms ++ ns) ≡ marked i f ms ++ marked i (f + length ms) ns
marked-append i f [] ns = ap (λ (n : ℕ). marked i n ns) (sym (add-zero f))
marked-append i f (m ∷ ms) ns =
    let n : f + 1 + length ms ≡ f + length (m ∷ ms) = omega arith in
    cond-append m (pair i f) (marked i (f + 1) ms) (marked i (f + length (m ∷ ms)) ns) (marked i (f + 1) (ms ++ ns))
    (marked-append i (f + 1) ms ns ∙ ap (λ (k : ℕ). marked i (f + 1) ms ++ marked i k ns) n)

-- one mark more
pub next_mark : (i f : ℕ) (ms : List Bool) (k : ℕ) (d : Bool) → k < length ms → marked i f (take (k + 1) ms) ≡ marked i f (take k ms) ++ cond (get_or ms k d) (pair i (f + k) ∷ []) []
next_mark i f ms k d inside =
    ap (marked i f) (take_more ms k d inside) ∙ marked-append i f (take k ms) (get_or ms k d ∷ [])
    ∙ ap (λ (n : ℕ). marked i f (take k ms) ++ marked i (f + n) (get_or ms k d ∷ [])) (length-take-le k ms (omega arith))

pub none_marked : (i f : ℕ) (ms : List Bool) → list_any (λ m. m) ms ≡ false → marked i f ms ≡ []
none_marked i f [] h = refl
none_marked i f (true ∷ ms) h = cc
none_marked i f (false ∷ ms) h = none_marked i (f + 1) ms h

-- ---- writing
-- one more at the end, where there is room
pub put_next : {A : Type 0} (xs zs : List A) (x : A) (n : ℕ) → n ≡ min (length zs) (length xs) → n < length zs → set (put xs zs) n x ≡ put (xs ++ x ∷ []) zs
put_next [] [] x n e h = absurd (omega arith)
put_next [] (z ∷ zs) x zero e h = refl
put_next [] (z ∷ zs) x (suc n) e h = absurd (omega arith)
put_next (y ∷ xs) [] x n e h = absurd (omega arith)
put_next (y ∷ xs) (z ∷ zs) x zero e h = absurd (omega arith)
put_next (y ∷ xs) (z ∷ zs) x (suc n) e h = ap (λ l. y ∷ l) (put_next xs zs x n (omega arith) (omega arith))

-- and where there is none
pub put_full : {A : Type 0} (xs ys zs : List A) → length zs ≤ length xs → put (xs ++ ys) zs ≡ put xs zs
put_full [] [] zs h = refl
put_full [] (y ∷ ys) [] h = refl
put_full [] (y ∷ ys) (z ∷ zs) h = absurd (omega arith)
put_full (x ∷ xs) ys [] h = refl
put_full (x ∷ xs) ys (z ∷ zs) h = ap (λ l. x ∷ l) (put_full xs ys zs (omega arith))

-- ---- counting
pub count_more : {A : Type 0} (p : A → Bool) (xs : List A) (i : ℕ) (d : A) (t : Bool) → i < length xs → t ≡ p (get_or xs i d) → count_by p (take i xs) + bool_byte t ≡ count_by p (take (i + 1) xs)
count_more p xs i d true h e = sym (count_by_more_yes p xs i d h (sym e))
count_more p xs i d false h e = add-zero (count_by p (take i xs)) ∙ sym (count_by_more_no p xs i d h (sym e))

-- ---- all of a table
pub whole_table : {A B : Type 0} (f : A → B) (xs : List A) (ys : List B) (k : ℕ) → length xs ≤ k → length ys ≤ k → map f (take k xs) ++ drop k ys ≡ map f xs
whole_table f xs ys k h e = (λ i. map f (take_all k xs h i) ++ drop_all k ys e i) ∙ append-nil (map f xs)

-- ---- one mark after another
-- what is found below k is written and counted, as far as there is room
pub record Written (i f : ℕ) (ms : List Bool) (old : List Pair) (k n : ℕ) (ps : List Pair) : Type 0 where
  pub count : n ≡ min (length old) (length (marked i f (take k ms)))
  pub pairs : ps ≡ put (marked i f (take k ms)) old

module _ (i f : ℕ) (ms : List Bool) (old : List Pair) (k n : ℕ) (ps : List Pair) where
  pub not_marked : Written i f ms old k n ps → k < length ms → get_or ms k false ≡ false → Written i f ms old (k + 1) n ps
  not_marked w h e =
      let same : marked i f (take (k + 1) ms) ≡ marked i f (take k ms) =
      next_mark i f ms k false h ∙ ap (λ t. marked i f (take k ms) ++ cond t (pair i (f + k) ∷ []) []) e ∙ append-nil (marked i f (take k ms)) in
      record {
        count = w.count ∙ ap (λ l. min (length old) (length l)) (sym same);
        pairs = w.pairs ∙ ap (λ l. put l old) (sym same);
      }

  pub no_room : Written i f ms old k n ps → k < length ms → length ps ≤ n → Written i f ms old (k + 1) n ps
  no_room w h full =
      let found = marked i f (take k ms) in
      let more = cond (get_or ms k false) (pair i (f + k) ∷ []) [] in
      let next = next_mark i f ms k false h in
      let whole : length old ≤ length found = omega (arith, w.count, ap length w.pairs, length-put found old) in
      record {
        count = omega (arith, w.count, whole, ap length next, length-append found more);
        pairs = w.pairs ∙ sym (put_full found more old whole) ∙ ap (λ l. put l old) (sym next);
      }

  pub one_written : Written i f ms old k n ps → k < length ms → get_or ms k false ≡ true → n < length ps → Written i f ms old (k + 1) (n + 1) (set ps n (pair i (f + k)))
  one_written w h e room =
      let found = marked i f (take k ms) in
      let next : marked i f (take (k + 1) ms) ≡ found ++ pair i (f + k) ∷ [] =
      next_mark i f ms k false h ∙ ap (λ t. found ++ cond t (pair i (f + k) ∷ []) []) e in
      let fits : n < length old = omega (arith, ap length w.pairs, length-put found old) in
      record {
        count = omega (arith, w.count, fits, ap length next, length-append found (pair i (f + k) ∷ []));
        pairs = ap (λ l. set l n (pair i (f + k))) w.pairs ∙ put_next found old (pair i (f + k)) n w.count fits ∙ ap (λ l. put l old) (sym next);
      }

pub put_none : {A : Type 0} (xs ys : List A) → length xs ≡ 0 → ys ≡ put xs ys
put_none [] ys h = refl
put_none (x ∷ xs) ys h = absurd (omega arith)

pub put_nowhere : {A : Type 0} (xs ys : List A) → length ys ≡ 0 → ys ≡ put xs ys
put_nowhere [] ys h = refl
put_nowhere (x ∷ xs) [] h = refl
put_nowhere (x ∷ xs) (y ∷ ys) h = absurd (omega arith)

-- ---- one stride after another
-- sixteen marks more, and those that are left
pub sixteen_more : (i f : ℕ) (ms : List Bool) (s : ℕ) → 16 * (s + 1) ≤ length ms
    → marked i f (take (16 * (s + 1)) ms) ≡ marked i f (take (16 * s) ms) ++ marked i (f + 16 * s) (take (16 * s + 16 - 16 * s) (drop (16 * s) ms))
sixteen_more i f ms s h =
    let k = 16 * s in
    let e = k + 16 - k in
    let more : 16 * (s + 1) ≡ k + e = omega arith in
    ap (λ (j : ℕ). marked i f (take j ms)) more ∙ ap (marked i f) (take-add k e ms) ∙ marked-append i f (take k ms) (take e (drop k ms))
    ∙ ap (λ (j : ℕ). marked i f (take k ms) ++ marked i (f + j) (take e (drop k ms))) (length-take-le k ms (omega arith))

pub those_left : (i f : ℕ) (ms : List Bool) (k : ℕ) → k ≤ length ms → marked i f (take k ms) ++ marked i (f + k) (take (length ms - k) (drop k ms)) ≡ marked i f ms
those_left i f ms k h =
    ap (λ (xs : List Bool). marked i f (take k ms) ++ marked i (f + k) xs) (take_rest ms k)
    ∙ ap (λ (j : ℕ). marked i f (take k ms) ++ marked i (f + j) (drop k ms)) (sym (length-take-le k ms h))
    ∙ sym (marked-append i f (take k ms) (drop k ms))
    ∙ ap (marked i f) (take-append-drop k ms)

-- what is written in two turns
pub in_two_turns : {A : Type 0} (xs ys zs : List A)
    → put_mid (min (length zs) (length xs)) (length (put xs zs) - min (length zs) (length xs)) (put xs zs) (put ys (take (length (put xs zs) - min (length zs) (length xs)) (drop (min (length zs) (length xs)) (put xs zs)))) ≡ put (xs ++ ys) zs
in_two_turns xs ys zs =
    let n = min (length zs) (length xs) in
    let ps = put xs zs in
    let second = put ys (take (length ps - n) (drop n ps)) in
    ap (λ l. take n ps ++ (second ++ l)) (nothing_after n ps) ∙ ap (λ l. take n ps ++ l) (append-nil second)
    ∙ put_halves xs ys zs ps second n refl refl (ap (put ys) (take_rest ps n))

pub count_two_turns : {A : Type 0} (xs ys zs : List A)
    → min (length zs) (length xs) + min (length (take (length (put xs zs) - min (length zs) (length xs)) (drop (min (length zs) (length xs)) (put xs zs)))) (length ys) ≡ min (length zs) (length (xs ++ ys))
count_two_turns xs ys zs =
    let n = min (length zs) (length xs) in
    let ps = put xs zs in
    omega (arith, length-append xs ys, length-put xs zs, ap length (take_rest ps n), length-drop n ps)

-- ---- equations for one more mark
module _ (i f : ℕ) (ms : List Bool) (old : List Pair) (k : ℕ) where
  abbrev written : List Pair
  written = put (marked i f (take k ms)) old

  abbrev many : ℕ
  many = min (length old) (length (marked i f (take k ms)))

  so_far : Written i f ms old k many written
  so_far = record { count = refl; pairs = refl }

  room_is : length written ≡ length old
  room_is = length-put (marked i f (take k ms)) old

  pub pairs_unmarked : k < length ms → get_or ms k false ≡ false → put (marked i f (take (k + 1) ms)) old ≡ written
  pairs_unmarked h e = sym (not_marked i f ms old k many written so_far h e).pairs

  pub count_unmarked : k < length ms → get_or ms k false ≡ false → min (length old) (length (marked i f (take (k + 1) ms))) ≡ many
  count_unmarked h e = sym (not_marked i f ms old k many written so_far h e).count

  pub pairs_full : k < length ms → length old ≤ many → put (marked i f (take (k + 1) ms)) old ≡ written
  pairs_full h full = sym (no_room i f ms old k many written so_far h (omega (arith, room_is))).pairs

  pub count_full : k < length ms → length old ≤ many → min (length old) (length (marked i f (take (k + 1) ms))) ≡ many
  count_full h full = sym (no_room i f ms old k many written so_far h (omega (arith, room_is))).count

  pub pairs_marked : k < length ms → get_or ms k false ≡ true → many < length old → put (marked i f (take (k + 1) ms)) old ≡ set written many (pair i (f + k))
  pairs_marked h e room = sym (one_written i f ms old k many written so_far h e (omega (arith, room_is))).pairs

  pub count_marked : k < length ms → get_or ms k false ≡ true → many < length old → min (length old) (length (marked i f (take (k + 1) ms))) ≡ many + 1
  count_marked h e room = sym (one_written i f ms old k many written so_far h e (omega (arith, room_is))).count

pub ruleset next_marks = (pairs_unmarked, count_unmarked, pairs_full, count_full, pairs_marked, count_marked)

pub ruleset strides = (put_nowhere, sixteen_more, those_left, in_two_turns, count_two_turns)
