-- A face's box from those of its corners, and the boxes of the faces one after another.
use Rattle.std.proofs.Common.{◌≡◌, ℕ, zero, suc, ◌+◌, ◌<◌, ◌≤◌, Bool, true, false, not, cond, ltb, ℤ, List, [], ◌∷◌, ◌++◌, length, map, get_or, set, take, drop, Some, None, Option, refl, subst, ⊎_elim, sym, ap, ◌∙◌, arith, lt-ltb, le-ltb, ltb-true, ltb-false}
use Rattle.std.proofs.lemmas.Option.{none-some}
use native.Mathlib.Numerals.{unary_clauses}
use Rattle.std.proofs.Math.ListN.{get_or-map}
use Rattle.std.proofs.lemmas.Bool.{cases_Bool, not_from_false}
use Rattle.std.proofs.lemmas.Int.{ints, clamps}
use Rattle.std.proofs.lemmas.List.Sums.{position_or_len_is}
use Rattle.std.specs.Int.{int_min, int_max}
use Rattle.sheet.specs.declared.rows.Face.{Face}
use Rattle.sheet.specs.declared.rows.Point.{Point}
use Rattle.motion.specs.declared.shapes.Moving.{Moving}
use Rattle.inspection.specs.Sheets.{Sheet, moving_of, nowhere, sheet_of, face_at, no_face}
use Rattle.inspection.specs.Tests.{corners_inside}
use Rattle.near_faces.specs.declared.boxes.SweptBox.{SweptBox}
use Rattle.near_faces.specs.Boxes.{joined, box_around, swept_box}
use Rattle.near_faces.specs.inner.Swept.{swept_by, swept_if_inside}
use Rattle.near_faces.specs.Searches.{lowest_outside, outside_checks}
use Rattle.sheet.specs.Checks.{first_fit, notice, check}
use Rattle.sheet.specs.declared.notices.Layer.TheVariants.{Search}
use Rattle.std.specs.Option.{is_some, option_map, unwrap_or}

-- ---- of one face
min_six : (a b c d e f : ℤ) → int_min (int_min a b) (int_min (int_min c d) (int_min e f)) ≡ int_min a (int_min b (int_min c (int_min d (int_min e f))))
min_six a b c d e f = omega (arith, ints, clamps)

max_six : (a b c d e f : ℤ) → int_max (int_max a b) (int_max (int_max c d) (int_max e f)) ≡ int_max a (int_max b (int_max c (int_max d (int_max e f))))
max_six a b c d e f = omega (arith, ints, clamps)

three_points : (a b c : Moving) → joined (swept_by a) (joined (swept_by b) (swept_by c)) ≡ box_around (a ∷ b ∷ c ∷ [])
three_points a b c = λ i.
    record {
      least = record {
        x = min_six a.start.x a.end.x b.start.x b.end.x c.start.x c.end.x i;
        y = min_six a.start.y a.end.y b.start.y b.end.y c.start.y c.end.y i;
        z = min_six a.start.z a.end.z b.start.z b.end.z c.start.z c.end.z i;
      };
      greatest = record {
        x = max_six a.start.x a.end.x b.start.x b.end.x c.start.x c.end.x i;
        y = max_six a.start.y a.end.y b.start.y b.end.y c.start.y c.end.y i;
        z = max_six a.start.z a.end.z b.start.z b.end.z c.start.z c.end.z i;
      };
    }

-- the box of a face whose corners are these rows
pub face_box : (ps : List Point) (f : Face) (a b c : Point) → a ≡ get_or ps f.a nowhere → b ≡ get_or ps f.b nowhere → c ≡ get_or ps f.c nowhere
    → joined (swept_by (moving_of a)) (joined (swept_by (moving_of b)) (swept_by (moving_of c))) ≡ swept_box (sheet_of ps []) f
face_box ps f a b c p q r =
    let at = λ (x : Point) (i : ℕ) (e : x ≡ get_or ps i nowhere). ap moving_of e ∙ sym (get_or-map moving_of ps i nowhere) in
    three_points (moving_of a) (moving_of b) (moving_of c) ∙ (λ i. box_around (at a f.a p i ∷ at b f.b q i ∷ at c f.c r i ∷ []))

-- ---- of one face after another
-- the next one's
pub one_more : {A B : Type 0} (f : A → B) (xs : List A) (ys : List B) (i : ℕ) (d : A) → i < length xs → length ys ≡ length xs
    → set (map f (take i xs) ++ drop i ys) i (f (get_or xs i d)) ≡ map f (take (i + 1) xs) ++ drop (i + 1) ys
one_more f [] ys i d h e = absurd (omega arith)
one_more f (x ∷ xs) [] i d h e = absurd (omega arith)
one_more f (x ∷ xs) (y ∷ ys) zero d h e = refl
one_more {A} {B} f (x ∷ xs) (y ∷ ys) (suc i) d h e =
    let next : i + 1 ≡ suc i = omega arith in
    simp unary_clauses
    (ap (λ l. f x ∷ l) (one_more f xs ys i d (omega arith) (omega arith)) ∙ (λ j. f x ∷ (map f (take (next j) xs) ++ drop (next j) ys)))

module _ (s : Sheet) where
  -- each face below this number has its corners among the points
  abbrev pub InsideBelow : ℕ → Type 0
  InsideBelow i = (k : ℕ) → k < i → corners_inside s (face_at s k) ≡ true

  first_at : (i : ℕ) → i ≤ length s.faces → InsideBelow i → (i < length s.faces → corners_inside s (face_at s i) ≡ false) → lowest_outside s ≡ cond (ltb i (length s.faces)) (Some i) None
  first_at i h below here =
      let outside = λ (f : Face). not (corners_inside s f) in
      ap (λ n. cond (ltb n (length s.faces)) (Some n) None)
      (position_or_len_is outside s.faces i no_face h (λ k l. ap not (below k l)) (λ l. not_from_false _ (here l)))

  pub lowest_is : (i : ℕ) → i < length s.faces → InsideBelow i → corners_inside s (face_at s i) ≡ false → lowest_outside s ≡ Some i
  lowest_is i h below here =
      first_at i (omega arith) below (λ l. here) ∙ ap (λ t. cond t (Some i) None) (lt-ltb i (length s.faces) h)

  pub none_is : InsideBelow (length s.faces) → lowest_outside s ≡ None
  none_is below =
      let n = length s.faces in
      first_at n (omega arith) below (λ l. absurd (omega arith)) ∙ ap (λ t. cond t (Some n) None) (le-ltb n n (omega arith))

  pub below_more : (i : ℕ) → InsideBelow i → corners_inside s (face_at s i) ≡ true → InsideBelow (i + 1)
  below_more i below here k h =
      ⊎_elim (λ t. below k (ltb-true k i t))
      (λ t. let e : i ≡ k = omega (arith, ltb-false k i t) in subst (λ (j : ℕ). corners_inside s (face_at s j) ≡ true) e here)
      (cases_Bool (ltb k i))

  -- what the box of a face tells of its corners
  pub inside_of : (f : Face) (b : SweptBox) → swept_if_inside s f ≡ Some b → (corners_inside s f ≡ true) × (b ≡ swept_box s f)
  inside_of f b e = go (corners_inside s f) refl e
    where
      go : (t : Bool) → corners_inside s f ≡ t → cond t (Some (swept_box s f)) None ≡ Some b → (corners_inside s f ≡ true) × (b ≡ swept_box s f)
      go true p q = (p, sym (ap (λ o. unwrap_or o b) q))
      go false p q = absurd (none-some b q)

  pub outside_of : (f : Face) → swept_if_inside s f ≡ None → corners_inside s f ≡ false
  outside_of f e = go (corners_inside s f) refl e
    where
      go : (t : Bool) → corners_inside s f ≡ t → cond t (Some (swept_box s f)) None ≡ None → corners_inside s f ≡ false
      go true p q = absurd (none-some (swept_box s f) (sym q))
      go false p q = p

  -- which fault the lowest such face makes
  pub told : (o : Option ℕ) → lowest_outside s ≡ o → option_map (λ i. notice 19 Search i 0) o ≡ first_fit (outside_checks s)
  told o e = subst (λ (r : Option ℕ). option_map (λ i. notice 19 Search i 0) o ≡ first_fit (check (is_some r) 19 Search (unwrap_or r 0) 0 ∷ [])) (sym e) (go o)
    where
      go : (o : Option ℕ) → option_map (λ i. notice 19 Search i 0) o ≡ first_fit (check (is_some o) 19 Search (unwrap_or o 0) 0 ∷ [])
      go None = refl
      go (Some i) = refl
