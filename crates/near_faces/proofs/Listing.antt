-- What is listed of a run in two halves, and of a run that is passed over.
use Rattle.std.proofs.Common.{◌≡◌, ℕ, zero, suc, ◌+◌, ◌-◌, ◌<◌, ◌≤◌, min, Bool, true, false, ◌&&◌, cond, ltb, List, [], ◌∷◌, ◌++◌, length, get_or, take, drop, refl, sym, ap, ◌∙◌, subst, arith, append_assoc, append-nil, add-zero, take-append-drop, length-take-le, length-drop, le-ltb}
use Rattle.std.proofs.lemmas.Bool.{true≢false, false_from_ne_true, and_left, and_right}
use Rattle.std.proofs.lemmas.List.{drop_all, take_more}
use borrow.Rule.Slice.PartMut.{post_of}
use Rattle.near_faces.specs.declared.boxes.SweptBox.{SweptBox}
use Rattle.near_faces.specs.declared.pairs.Pair.{Pair}
use Rattle.near_faces.specs.Boxes.{meets, around}
use Rattle.near_faces.specs.Near.{pair, near_to, near_from}
use Rattle.near_faces.specs.inner.Listing.{put}
use Rattle.near_faces.proofs.Meeting.{meets_left, meets_right}

pub cond-append : {A : Type 0} (t : Bool) (x : A) (xs ys zs : List A) → zs ≡ xs ++ ys → cond t (x ∷ zs) zs ≡ cond t (x ∷ xs) xs ++ ys
cond-append true x xs ys zs e = ap (λ l. x ∷ l) e
cond-append false x xs ys zs e = e

pub near_to-append : (i : ℕ) (b : SweptBox) (f : ℕ) (xs ys : List SweptBox) → near_to i b f (xs ++ ys) ≡ near_to i b f xs ++ near_to i b (f + length xs) ys
near_to-append i b f [] ys = ap (λ (n : ℕ). near_to i b n ys) (sym (add-zero f))
near_to-append i b f (x ∷ xs) ys =
    let n : f + 1 + length xs ≡ f + length (x ∷ xs) = omega arith in
    cond-append (ltb i f && meets b x) (pair i f) (near_to i b (f + 1) xs) (near_to i b (f + length (x ∷ xs)) ys) (near_to i b (f + 1) (xs ++ ys))
    (near_to-append i b (f + 1) xs ys ∙ ap (λ (k : ℕ). near_to i b (f + 1) xs ++ near_to i b k ys) n)

cond-none : {A : Type 0} (t : Bool) (x : A) (xs : List A) → t ≡ false → xs ≡ [] → cond t (x ∷ xs) xs ≡ []
cond-none t x xs e n = ap (λ s. cond s (x ∷ xs) xs) e ∙ n

-- no later face
pub none_later : (i : ℕ) (b : SweptBox) (f : ℕ) (run : List SweptBox) → f + length run ≤ i + 1 → near_to i b f run ≡ []
none_later i b f [] h = refl
none_later i b f (c ∷ cs) h =
    cond-none (ltb i f && meets b c) (pair i f) (near_to i b (f + 1) cs) (and_left (ltb i f) (meets b c) (le-ltb i f (omega arith)))
    (none_later i b (f + 1) cs (omega arith))

not_met : (b c d : SweptBox) → (meets b c ≡ true → meets b d ≡ true) → meets b d ≡ false → meets b c ≡ false
not_met b c d h e = false_from_ne_true (meets b c) (λ t. true≢false (sym (h t) ∙ e))

-- no face whose box meets b, where the least box around theirs does not
pub none_met : (i : ℕ) (b : SweptBox) (f : ℕ) (run : List SweptBox) → meets b (around run) ≡ false → near_to i b f run ≡ []
none_met i b f [] h = refl
none_met i b f (c ∷ []) h = cond-none (ltb i f && meets b c) (pair i f) [] (and_right (ltb i f) (meets b c) h) refl
none_met i b f (c ∷ d ∷ cs) h =
    let rest = around (d ∷ cs) in
    cond-none (ltb i f && meets b c) (pair i f) (near_to i b (f + 1) (d ∷ cs)) (and_right (ltb i f) (meets b c) (not_met b c _ (meets_left b c rest) h))
    (none_met i b (f + 1) (d ∷ cs) (not_met b rest _ (meets_right b c rest) h))

-- a run in two halves
pub in_halves : (i : ℕ) (b : SweptBox) (f h : ℕ) (run : List SweptBox) → h ≤ length run → near_to i b f run ≡ near_to i b f (take h run) ++ near_to i b (f + h) (drop h run)
in_halves i b f h run le =
    ap (near_to i b f) (sym (take-append-drop h run)) ∙ near_to-append i b f (take h run) (drop h run)
    ∙ ap (λ (n : ℕ). near_to i b f (take h run) ++ near_to i b (f + n) (drop h run)) (length-take-le h run le)

pub length-near_to : (i : ℕ) (b : SweptBox) (f : ℕ) (run : List SweptBox) → length (near_to i b f run) ≤ length run
length-near_to i b f [] = omega arith
length-near_to i b f (c ∷ cs) = go (ltb i f && meets b c) (near_to i b (f + 1) cs) (length-near_to i b (f + 1) cs)
  where
    go : (t : Bool) (ps : List Pair) → length ps ≤ length cs → length (cond t (pair i f ∷ ps) ps) ≤ length (c ∷ cs)
    go true ps h = omega arith
    go false ps h = omega arith

-- ---- writing over the front
pub length-put : {A : Type 0} → (xs ys : List A) → length (put xs ys) ≡ length ys
length-put [] ys = refl
length-put (x ∷ xs) [] = refl
length-put (x ∷ xs) (y ∷ ys) = ap suc (length-put xs ys)

pub put_fits : {A : Type 0} → (xs ys : List A) → length xs ≤ length ys → put xs ys ≡ xs ++ drop (length xs) ys
put_fits [] ys h = refl
put_fits (x ∷ xs) [] h = absurd (omega arith)
put_fits (x ∷ xs) (y ∷ ys) h = ap (λ l. x ∷ l) (put_fits xs ys (omega arith))

put-nil : {A : Type 0} → (xs : List A) → put xs [] ≡ []
put-nil [] = refl
put-nil (x ∷ xs) = refl

-- first one list, and then another behind it
pub put-append : {A : Type 0} → (xs ys zs : List A) (n : ℕ) → n ≡ min (length zs) (length xs) → put (xs ++ ys) zs ≡ take n (put xs zs) ++ put ys (drop n (put xs zs))
put-append [] ys zs n e =
    let none : n ≡ 0 = omega arith in
    subst (λ (k : ℕ). put ys zs ≡ take k zs ++ put ys (drop k zs)) (sym none) refl
put-append (x ∷ xs) ys [] n e =
    let none : n ≡ 0 = omega arith in
    subst (λ (k : ℕ). [] ≡ take k [] ++ put ys (drop k [])) (sym none) (sym (put-nil ys))
put-append (x ∷ xs) ys (z ∷ zs) zero e = absurd (omega arith)
put-append (x ∷ xs) ys (z ∷ zs) (suc n) e = ap (λ l. x ∷ l) (put-append xs ys zs n (omega arith))

-- a part up to the end has nothing behind it
pub nothing_after : {A : Type 0} → (n : ℕ) (xs : List A) → post_of n (length xs - n) xs ≡ []
nothing_after n xs = drop_all (length xs - n) (drop n xs) (omega (arith, length-drop n xs))

-- what is written over the front in two turns, the second from place n on
pub put_halves : {A : Type 0} → (xs ys zs first second : List A) (n : ℕ) → n ≡ min (length zs) (length xs) → first ≡ put xs zs → second ≡ put ys (drop n first) → take n first ++ second ≡ put (xs ++ ys) zs
put_halves xs ys zs first second n e f g =
    ap (λ l. take n first ++ l) g ∙ ap (λ l. take n l ++ put ys (drop n l)) f ∙ sym (put-append xs ys zs n e)

-- the pairs of one face more
pub near_from-append : (all : List SweptBox) (i : ℕ) (xs : List SweptBox) (b : SweptBox) → near_from all i (xs ++ b ∷ []) ≡ near_from all i xs ++ near_to (i + length xs) b 0 all
near_from-append all i [] b = append-nil (near_to i b 0 all) ∙ ap (λ (n : ℕ). near_to n b 0 all) (sym (add-zero i))
near_from-append all i (x ∷ xs) b =
    let j : i + 1 + length xs ≡ i + length (x ∷ xs) = omega arith in
    ap (λ l. near_to i x 0 all ++ l) (near_from-append all (i + 1) xs b ∙ ap (λ (n : ℕ). near_from all (i + 1) xs ++ near_to n b 0 all) j)
    ∙ sym (append_assoc (near_to i x 0 all) (near_from all (i + 1) xs) (near_to (i + length (x ∷ xs)) b 0 all))

-- a loop over the faces: the pairs of face i come next
pub next_face : (all : List SweptBox) (i : ℕ) (d : SweptBox) → i < length all → near_from all 0 (take (i + 1) all) ≡ near_from all 0 (take i all) ++ near_to i (get_or all i d) 0 all
next_face all i d inside =
    let j : 0 + length (take i all) ≡ i = omega (arith, length-take-le i all (omega arith)) in
    ap (near_from all 0) (take_more all i d inside) ∙ near_from-append all 0 (take i all) (get_or all i d)
    ∙ ap (λ (n : ℕ). near_from all 0 (take i all) ++ near_to n (get_or all i d) 0 all) j
