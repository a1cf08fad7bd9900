-- The listed pairs are all near pairs and no other, in ascending order.
use Rattle.std.proofs.Common.{◌≡◌, ℕ, zero, suc, ◌+◌, ◌<◌, ◌≤◌, Bool, true, false, ◌&&◌, cond, ltb, List, [], ◌∷◌, ◌++◌, length, refl, sym, ap, ◌∙◌, subst, arith, inl, inr, lt-ltb, ltb-true}
use Rattle.std.specs.Prelude.{All, AllPairs, Contains}
use Rattle.std.proofs.lemmas.Bool.{and_parts, and_from}
use Rattle.std.proofs.lemmas.List.Elements.{All-nil, All-cons, All-append, All-head, All-tail, Contains-append_left, Contains-append_right}
use Rattle.near_faces.specs.declared.boxes.SweptBox.{SweptBox}
use Rattle.near_faces.specs.declared.pairs.Pair.{Pair}
use Rattle.near_faces.specs.Boxes.{meets}
use Rattle.near_faces.specs.Near.{pair, near_to, near_from, near, box_at, Near, PairBefore, NearPairs}

-- ---- pairs of places of a list
pairs_none : {A : Type 0} (R : A → A → Type 0) → AllPairs R []
pairs_none R i j d less inside = absurd (omega arith)

pairs_cons : {A : Type 0} (R : A → A → Type 0) (x : A) (xs : List A) → All (R x) xs → AllPairs R xs → AllPairs R (x ∷ xs)
pairs_cons R x xs a p i zero d less inside = absurd (omega arith)
pairs_cons R x xs a p zero (suc j) d less inside = a j d (omega arith)
pairs_cons R x xs a p (suc i) (suc j) d less inside = p i j d (omega arith) (omega arith)

pairs_tail : {A : Type 0} (R : A → A → Type 0) (x : A) (xs : List A) → AllPairs R (x ∷ xs) → AllPairs R xs
pairs_tail R x xs p i j d less inside = p (suc i) (suc j) d (omega arith) (omega arith)

pairs_head : {A : Type 0} (R : A → A → Type 0) (x : A) (xs : List A) → AllPairs R (x ∷ xs) → All (R x) xs
pairs_head R x xs p k d inside = p 0 (suc k) d (omega arith) (omega arith)

pairs_append : {A : Type 0} (R : A → A → Type 0) (xs ys : List A) → AllPairs R xs → AllPairs R ys → All (λ x. All (R x) ys) xs → AllPairs R (xs ++ ys)
pairs_append R [] ys p q a = q
pairs_append R (x ∷ xs) ys p q a =
    pairs_cons R x (xs ++ ys) (All-append (R x) xs ys (pairs_head R x xs p) (All-head (λ z. All (R z) ys) x xs a))
    (pairs_append R xs ys (pairs_tail R x xs p) q (All-tail (λ z. All (R z) ys) x xs a))

in_head : {A : Type 0} (x : A) (xs : List A) → Contains (x ∷ xs) x
in_head x xs = (0, omega arith, refl)

in_tail : {A : Type 0} (x y : A) (xs : List A) → Contains xs y → Contains (x ∷ xs) y
in_tail x y xs c = (suc c.0, omega (arith, c.1), c.2)

-- ---- of one face
module _ (i : ℕ) (b : SweptBox) where
  -- a later face of the run, at this place, whose box meets b
  pub record Later (f : ℕ) (run : List SweptBox) (k : ℕ) : Type 0 where
    pub within : k < length run
    pub later : i < f + k
    pub meet : meets b (box_at run k) ≡ true

  later_tail : (f : ℕ) (c : SweptBox) (cs : List SweptBox) (k : ℕ) → Later f (c ∷ cs) (suc k) → Later (f + 1) cs k
  later_tail f c cs k l = record { within = omega (arith, l.within); later = omega (arith, l.later); meet = l.meet }

  later_cons : (f : ℕ) (c : SweptBox) (cs : List SweptBox) (k : ℕ) → Later (f + 1) cs k → Later f (c ∷ cs) (suc k)
  later_cons f c cs k l = record { within = omega (arith, l.within); later = omega (arith, l.later); meet = l.meet }

  pub listed_to : (f : ℕ) (run : List SweptBox) (k : ℕ) → Later f run k → Contains (near_to i b f run) (pair i (f + k))
  listed_to f [] k l = absurd (omega (arith, l.within))
  listed_to f (c ∷ cs) zero l =
      let t : (ltb i f && meets b c) ≡ true = and_from _ _ (lt-ltb i f (omega (arith, l.later))) l.meet in
      let j : f ≡ f + 0 = omega arith in
      subst (Contains (near_to i b f (c ∷ cs))) (ap (pair i) j) (subst (λ (s : Bool). Contains (cond s (pair i f ∷ near_to i b (f + 1) cs) (near_to i b (f + 1) cs)) (pair i f)) (sym t) (in_head (pair i f) (near_to i b (f + 1) cs)))
  listed_to f (c ∷ cs) (suc k) l =
      let j : f + 1 + k ≡ f + suc k = omega arith in
      subst (Contains (near_to i b f (c ∷ cs))) (ap (pair i) j) (go (ltb i f && meets b c) (listed_to (f + 1) cs k (later_tail f c cs k l)))
    where
      go : (t : Bool) → Contains (near_to i b (f + 1) cs) (pair i (f + 1 + k)) → Contains (cond t (pair i f ∷ near_to i b (f + 1) cs) (near_to i b (f + 1) cs)) (pair i (f + 1 + k))
      go true h = in_tail (pair i f) (pair i (f + 1 + k)) (near_to i b (f + 1) cs) h
      go false h = h

  pub each_to : (P : Pair → Type 0) (f : ℕ) (run : List SweptBox) → ((k : ℕ) → Later f run k → P (pair i (f + k))) → All P (near_to i b f run)
  each_to P f [] h = All-nil P
  each_to P f (c ∷ cs) h =
      go (ltb i f && meets b c) refl
      (each_to P (f + 1) cs (λ k l. let j : f + suc k ≡ f + 1 + k = omega arith in subst (λ (n : ℕ). P (pair i n)) j (h (suc k) (later_cons f c cs k l))))
    where
      go : (t : Bool) → (ltb i f && meets b c) ≡ t → All P (near_to i b (f + 1) cs) → All P (cond t (pair i f ∷ near_to i b (f + 1) cs) (near_to i b (f + 1) cs))
      go true e rest =
          let p = and_parts (ltb i f) (meets b c) e in
          let j : f + 0 ≡ f = omega arith in
          All-cons P (pair i f) (near_to i b (f + 1) cs) (subst (λ (n : ℕ). P (pair i n)) j (h 0 (record { within = omega arith; later = omega (arith, ltb-true i f p.0); meet = p.1 }))) rest
      go false e rest = rest

  pub ascending_to : (f : ℕ) (run : List SweptBox) → AllPairs PairBefore (near_to i b f run)
  ascending_to f [] = pairs_none PairBefore
  ascending_to f (c ∷ cs) = go (ltb i f && meets b c) (ascending_to (f + 1) cs)
    where
      after : All (PairBefore (pair i f)) (near_to i b (f + 1) cs)
      after = each_to (PairBefore (pair i f)) (f + 1) cs (λ k l. inr (refl, omega arith))

      go : (t : Bool) → AllPairs PairBefore (near_to i b (f + 1) cs) → AllPairs PairBefore (cond t (pair i f ∷ near_to i b (f + 1) cs) (near_to i b (f + 1) cs))
      go true rest = pairs_cons PairBefore (pair i f) (near_to i b (f + 1) cs) after rest
      go false rest = rest

-- ---- of all faces: the rest begins with face i
pub record RestOf (all : List SweptBox) (i : ℕ) (rest : List SweptBox) : Type 0 where
  pub number : i + length rest ≡ length all
  pub same : (k : ℕ) → box_at rest k ≡ box_at all (i + k)

rest_tail : (all : List SweptBox) (i : ℕ) (b : SweptBox) (bs : List SweptBox) → RestOf all i (b ∷ bs) → RestOf all (i + 1) bs
rest_tail all i b bs r =
    record {
      number = omega (arith, r.number);
      same = λ k. let j : i + suc k ≡ i + 1 + k = omega arith in r.same (suc k) ∙ ap (box_at all) j;
    }

first_box : (all : List SweptBox) (i : ℕ) (b : SweptBox) (bs : List SweptBox) → RestOf all i (b ∷ bs) → b ≡ box_at all i
first_box all i b bs r = let j : i + 0 ≡ i = omega arith in r.same 0 ∙ ap (box_at all) j

module _ (all : List SweptBox) where
  each_from : (P : Pair → Type 0) (i : ℕ) (rest : List SweptBox) → RestOf all i rest → ((p : Pair) → i ≤ p.first → Near all p → P p) → All P (near_from all i rest)
  each_from P i [] r h = All-nil P
  each_from P i (b ∷ bs) r h =
      All-append P (near_to i b 0 all) (near_from all (i + 1) bs)
      (each_to i b P 0 all (λ k l.
      let within = l.within in
      let later = l.later in
      let j : 0 + k ≡ k = omega arith in
      h (pair i (0 + k)) (omega arith) (record { lower_first = later; within = omega arith; meet = ap (λ (c : SweptBox). meets c (box_at all (0 + k))) (sym (first_box all i b bs r)) ∙ ap (λ (n : ℕ). meets b (box_at all n)) j ∙ l.meet })))
      (each_from P (i + 1) bs (rest_tail all i b bs r) (λ p le n. h p (omega arith) n))

  ascending_from : (i : ℕ) (rest : List SweptBox) → RestOf all i rest → AllPairs PairBefore (near_from all i rest)
  ascending_from i [] r = pairs_none PairBefore
  ascending_from i (b ∷ bs) r =
      let s = rest_tail all i b bs r in
      pairs_append PairBefore (near_to i b 0 all) (near_from all (i + 1) bs) (ascending_to i b 0 all) (ascending_from (i + 1) bs s)
      (each_to i b (λ p. All (PairBefore p) (near_from all (i + 1) bs)) 0 all
      (λ k l. each_from (PairBefore (pair i (0 + k))) (i + 1) bs s (λ q le n. inl (omega arith))))

  listed_from : (i : ℕ) (rest : List SweptBox) → RestOf all i rest → (m : ℕ) (p : Pair) → p.first ≡ i + m → Near all p → Contains (near_from all i rest) p
  listed_from i [] r m p e n = absurd (omega (arith, r.number, n.lower_first, n.within))
  listed_from i (b ∷ bs) r zero p e n =
      let at : p.first ≡ i = omega arith in
      let l : Later i b 0 all p.second = record {
        within = n.within;
        later = omega (arith, n.lower_first);
        meet = ap (λ (c : SweptBox). meets c (box_at all p.second)) (first_box all i b bs r ∙ ap (box_at all) (sym at)) ∙ n.meet;
      } in
      let j : 0 + p.second ≡ p.second = omega arith in
      Contains-append_left (near_to i b 0 all) (near_from all (i + 1) bs) p
      (subst (Contains (near_to i b 0 all)) (λ x. pair (sym at x) (j x)) (listed_to i b 0 all p.second l))
  listed_from i (b ∷ bs) r (suc m) p e n =
      Contains-append_right (near_to i b 0 all) (near_from all (i + 1) bs) p (listed_from (i + 1) bs (rest_tail all i b bs r) m p (omega arith) n)

  whole : RestOf all 0 all
  whole = record { number = omega arith; same = λ k. let j : k ≡ 0 + k = omega arith in ap (box_at all) j }

  pub complete : NearPairs all (near all)
  complete =
      record {
        all = λ p n. let e : p.first ≡ 0 + p.first = omega arith in listed_from 0 all whole p.first p e n;
        only = each_from (Near all) 0 all whole (λ p le n. n);
        ascending = ascending_from 0 all whole;
      }
