-- The window: what it says of a test, for any set, and how it comes from those of the halves.
use Rattle.std.proofs.Common.{◌≡◌, ℕ, zero, suc, ◌+◌, ◌-◌, ◌^◌, ◌<◌, ◌≤◌, Bool, true, false, cond, ◌&&◌, ◌⊎◌, ◌↔◌, Option, Some, None, MatchOption, IfSome, sym, refl, ap, ◌∙◌, subst, ⊎_elim, arith}
use native.Mathlib.Decide.{dec_le}
use Rattle.std.specs.Option.{option_or, option_zip, option_map}
use Rattle.std.proofs.lemmas.Option.{none-some, some_pair_parts, MatchOption-at_some}
use Rattle.std.proofs.lemmas.Bool.{and_parts, and_from, both_ways}
use Rattle.motion.specs.declared.shapes.Shape.{Shape}
use Rattle.motion.specs.Laws.{Valid, Apart, Lawful, subinterval, half}
use Rattle.motion.specs.Earliest.{EarliestMeans, first_of}
use Rattle.motion.specs.Depths.{every, struck_at, IsWindow, first_lacking, last_lacking, first_passed, last_passed, window_at, WindowMeans, FindsWindow}
use Rattle.motion.proofs.Subintervals.{twice, in-first, in-last, whole, valid-subinterval}
use Rattle.motion.proofs.DepthLaws.{whole-struck, struck}

-- ---- the least number at which f does not hold, and the greatest; where there is none, f holds at all
record First (f : ℕ → Bool) (n i : ℕ) : Type 0 where
  within : i < n
  here : f i ≡ false
  before : (k : ℕ) → k < i → f k ≡ true

record Last (f : ℕ → Bool) (n j : ℕ) : Type 0 where
  within : j < n
  here : f j ≡ false
  beyond : (k : ℕ) → j < k → k < n → f k ≡ true

one-more : (f : ℕ → Bool) (n k : ℕ) → k < suc n → f n ≡ true → (k < n → f k ≡ true) → f k ≡ true
one-more f n k h e below = go (dec_le n k)
  where
    go : Dec (n ≤ k) → f k ≡ true
    go (yes q) = let same : k ≡ n = omega arith in ap f same ∙ e
    go (no q) = below (omega arith)

every-at : (f : ℕ → Bool) (n k : ℕ) → k < n → every f n ≡ true → f k ≡ true
every-at f zero k h e = absurd (omega arith)
every-at f (suc n) k h e = let p = and_parts (every f n) (f n) e in one-more f n k h p.1 (λ r. every-at f n k r p.0)

first-says : (f : ℕ → Bool) (n : ℕ) → MatchOption (first_lacking f n) (every f n ≡ true) (First f n)
first-says f zero = refl
first-says f (suc n) = turn (first_lacking f n) (f n) refl (first-says f n)
  where
    turn : (o : Option ℕ) (b : Bool) → f n ≡ b → MatchOption o (every f n ≡ true) (First f n) → MatchOption (option_or o (cond b None (Some n))) ((every f n && f n) ≡ true) (First f (suc n))
    turn None true e h = and_from _ _ h e
    turn None false e h = record { within = omega arith; here = e; before = λ k l. every-at f n k l h }
    turn (Some i) b e h = record { within = omega (arith, h.within); here = h.here; before = h.before }

last-says : (f : ℕ → Bool) (n : ℕ) → MatchOption (last_lacking f n) (every f n ≡ true) (Last f n)
last-says f zero = refl
last-says f (suc n) = turn (last_lacking f n) (f n) refl (last-says f n)
  where
    turn : (o : Option ℕ) (b : Bool) → f n ≡ b → MatchOption o (every f n ≡ true) (Last f n) → MatchOption (cond b o (Some n)) ((every f n && f n) ≡ true) (Last f (suc n))
    turn None true e h = and_from _ _ h e
    turn (Some j) true e h = record { within = omega (arith, h.within); here = h.here; beyond = λ k l m. one-more f n k m e (h.beyond k l) }
    turn o false e h = record { within = omega arith; here = e; beyond = λ k l m. absurd (omega arith) }

lacks-none : (f : ℕ → Bool) (n i : ℕ) → i < n → f i ≡ false → every f n ≡ true → ⊥
lacks-none f n i h e a = both_ways (f i) e (every-at f n i h a)

-- ---- of m + n numbers, the first m and the others
first-tail : (m n : ℕ) (o p : Option ℕ) (b : Bool)
    → option_or (option_or o (option_map (λ k. m + k) p)) (cond b None (Some (m + n))) ≡ option_or o (option_map (λ k. m + k) (option_or p (cond b None (Some n))))
first-tail m n o p b = grind arith

last-tail : (m n : ℕ) (o p : Option ℕ) (b : Bool)
    → cond b (option_or (option_map (λ k. m + k) p) o) (Some (m + n)) ≡ option_or (option_map (λ k. m + k) (cond b p (Some n))) o
last-tail m n o p b = grind arith

or-none : (o : Option ℕ) → o ≡ option_or o None
or-none o = grind arith

first-more : (f : ℕ → Bool) (m n : ℕ) → first_lacking f (m + n) ≡ option_or (first_lacking f m) (option_map (λ k. m + k) (first_lacking (λ k. f (m + k)) n))
first-more f m zero = let e : m + 0 ≡ m = omega arith in ap (first_lacking f) e ∙ or-none (first_lacking f m)
first-more f m (suc n) =
    let e : m + suc n ≡ suc (m + n) = omega arith in
    ap (first_lacking f) e ∙ ap (λ o. option_or o (cond (f (m + n)) None (Some (m + n)))) (first-more f m n)
    ∙ first-tail m n (first_lacking f m) (first_lacking (λ k. f (m + k)) n) (f (m + n))

last-more : (f : ℕ → Bool) (m n : ℕ) → last_lacking f (m + n) ≡ option_or (option_map (λ k. m + k) (last_lacking (λ k. f (m + k)) n)) (last_lacking f m)
last-more f m zero = let e : m + 0 ≡ m = omega arith in ap (last_lacking f) e
last-more f m (suc n) =
    let e : m + suc n ≡ suc (m + n) = omega arith in
    ap (last_lacking f) e ∙ ap (λ o. cond (f (m + n)) o (Some (m + n))) (last-more f m n)
    ∙ last-tail m n (last_lacking f m) (last_lacking (λ k. f (m + k)) n) (f (m + n))

-- ---- what is said of both, of which none is there where one is not
none-is : (E : Type 0) (P : ℕ → Type 0) (o : Option ℕ) → MatchOption o E P → ((i : ℕ) → P i → E → ⊥) → E → o ≡ None
none-is E P None h n e = refl
none-is E P (Some i) h n e = absurd (n i h e)

zip-says : (E : Type 0) (P Q : ℕ → Type 0) (o p : Option ℕ) → MatchOption o E P → MatchOption p E Q → ((i : ℕ) → P i → E → ⊥)
    → ((i j : ℕ) → option_zip o p ≡ Some (i, j) → P i × Q j) × ((option_zip o p ≡ None) ↔ E)
zip-says E P Q None p h k n = (λ i j e. absurd (none-some (i, j) e), (λ e. h, λ e. refl))
zip-says E P Q (Some a) None h k n = (λ i j e. absurd (none-some (i, j) e), (λ e. k, λ e. refl))
zip-says E P Q (Some a) (Some b) h k n = (
  λ i j e. let w = some_pair_parts a i b j e in (subst P w.0 h, subst Q w.1 k),
  (λ e. absurd (none-some (a, b) (sym e)), λ e. absurd (n a h e)),
)

module _ (set : Shape → Bool) where
  abbrev part : ℕ → Shape → ℕ → Bool
  part d t j = set (subinterval d j t)

  -- ---- what the window says
  pub finds-window : (d : ℕ) (t : Shape) → FindsWindow set d t
  unfolding struck_at first_passed last_passed window_at
  finds-window d t =
      let f = part d t in
      let n = 2 ^ d in
      let z = zip-says (every f n ≡ true) (First f n) (Last f n) (first_lacking f n) (last_lacking f n) (first-says f n) (last-says f n) (λ i h. lacks-none f n i h.within h.here) in
      record {
        some = λ i j e.
            let w = z.0 i j e in
            record { within = w.1.within; first = w.0.here; before = w.0.before; last = w.1.here; beyond = w.1.beyond };
        none = z.1;
      }

  -- ---- how the first and the last are found: what is struck whole, by the laws
  pub first_none : Lawful set → (d : ℕ) (t : Shape) → Valid t → t.scale + d ≤ 6 → true ≡ set t → None ≡ first_passed set d t
  unfolding struck_at first_passed
  first_none l d t v k h =
      let lacks = λ (i : ℕ) (w : First (part d t) (2 ^ d) i). lacks-none (part d t) (2 ^ d) i w.within w.here in
      sym (none-is _ (First (part d t) (2 ^ d)) _ (first-says (part d t) (2 ^ d)) lacks (whole-struck set l d t v k (sym h)))

  pub last_none : Lawful set → (d : ℕ) (t : Shape) → Valid t → t.scale + d ≤ 6 → true ≡ set t → None ≡ last_passed set d t
  unfolding struck_at last_passed
  last_none l d t v k h =
      let lacks = λ (i : ℕ) (w : Last (part d t) (2 ^ d) i). lacks-none (part d t) (2 ^ d) i w.within w.here in
      sym (none-is _ (Last (part d t) (2 ^ d)) _ (last-says (part d t) (2 ^ d)) lacks (whole-struck set l d t v k (sym h)))

  -- at depth 0 the whole decides
  pub first_at_whole : (d : ℕ) (t : Shape) → d ≡ 0 → first_passed set d t ≡ cond (set t) None (Some 0)
  unfolding first_passed
  first_at_whole d t e = ap (λ (n : ℕ). first_passed set n t) e ∙ ap (λ b. cond b None (Some 0)) (ap set (whole t))

  pub first_whole : (d : ℕ) (t : Shape) → d ≡ 0 → set t ≡ false → first_passed set d t ≡ Some 0
  first_whole d t e h = first_at_whole d t e ∙ ap (λ b. cond b None (Some 0)) h

  pub last_whole : (d : ℕ) (t : Shape) → d ≡ 0 → set t ≡ false → last_passed set d t ≡ Some 0
  unfolding last_passed
  last_whole d t e h = ap (λ (n : ℕ). last_passed set n t) e ∙ ap (λ b. cond b None (Some 0)) (ap set (whole t) ∙ h)

  -- by the halves
  pub first_step : (d : ℕ) (t : Shape) → 0 < d
      → first_passed set d t ≡ option_or (first_passed set (d - 1) (half 0 t)) (option_map (λ k. 2 ^ (d - 1) + k) (first_passed set (d - 1) (half 1 t)))
  unfolding first_passed
  first_step zero t h = absurd (omega arith)
  first_step (suc d) t h =
      let e : suc d - 1 ≡ d = omega arith in
      rw e
      (ap (first_lacking (part (suc d) t)) (twice d) ∙ first-more (part (suc d) t) (2 ^ d) (2 ^ d)
      ∙ (λ i. option_or (first_lacking (λ j. set (in-first t d j i)) (2 ^ d)) (option_map (λ k. 2 ^ d + k) (first_lacking (λ j. set (in-last t d j i)) (2 ^ d)))))

  pub last_step : (d : ℕ) (t : Shape) → 0 < d
      → last_passed set d t ≡ option_or (option_map (λ k. 2 ^ (d - 1) + k) (last_passed set (d - 1) (half 1 t))) (last_passed set (d - 1) (half 0 t))
  unfolding last_passed
  last_step zero t h = absurd (omega arith)
  last_step (suc d) t h =
      let e : suc d - 1 ≡ d = omega arith in
      rw e
      (ap (last_lacking (part (suc d) t)) (twice d) ∙ last-more (part (suc d) t) (2 ^ d) (2 ^ d)
      ∙ (λ i. option_or (option_map (λ k. 2 ^ d + k) (last_lacking (λ j. set (in-last t d j i)) (2 ^ d))) (last_lacking (λ j. set (in-first t d j i)) (2 ^ d))))

  -- the first that is passed is that of the window
  pub first_of_window : (d : ℕ) (t : Shape) → first_passed set d t ≡ first_of (window_at set d t)
  unfolding first_passed last_passed window_at
  first_of_window d t = both (first_lacking (part d t) (2 ^ d)) (last_lacking (part d t) (2 ^ d)) (first-says (part d t) (2 ^ d)) (last-says (part d t) (2 ^ d))
    where
      both : (o p : Option ℕ) → MatchOption o (every (part d t) (2 ^ d) ≡ true) (First (part d t) (2 ^ d)) → MatchOption p (every (part d t) (2 ^ d) ≡ true) (Last (part d t) (2 ^ d))
          → o ≡ first_of (option_zip o p)
      both None p h k = refl
      both (Some i) None h k = absurd (lacks-none (part d t) (2 ^ d) i h.within h.here k)
      both (Some i) (Some j) h k = refl

  -- each is a number of a subinterval
  pub first_below : (d : ℕ) (t : Shape) (o : Option ℕ) → o ≡ first_passed set d t → IfSome o (λ k. k < 2 ^ d)
  unfolding first_passed
  first_below d t None e = tt
  first_below d t (Some i) e = (MatchOption-at_some (every (part d t) (2 ^ d) ≡ true) (First (part d t) (2 ^ d)) i (sym e) (first-says (part d t) (2 ^ d))).within

  pub last_below : (d : ℕ) (t : Shape) (o : Option ℕ) → o ≡ last_passed set d t → IfSome o (λ k. k < 2 ^ d)
  unfolding last_passed
  last_below d t None e = tt
  last_below d t (Some j) e = (MatchOption-at_some (every (part d t) (2 ^ d) ≡ true) (Last (part d t) (2 ^ d)) j (sym e) (last-says (part d t) (2 ^ d))).within

-- ---- what the window means, for a set that keeps the laws
module _ (set : Shape → Bool) (l : Lawful set) (d : ℕ) (t : Shape) (v : Valid t) (room : t.scale + d ≤ 6) where
  outside : (i j : ℕ) → IsWindow set d t i j → (n : ℕ) → n < 2 ^ d → (n < i) ⊎ (j < n) → Apart (subinterval d n t)
  outside i j w n h o = l.apart (subinterval d n t) (valid-subinterval t v d n room h) (⊎_elim (w.before n) (λ e. w.beyond n e h) o)

  pub window-means : (w : Option (ℕ × ℕ)) → w ≡ window_at set d t → WindowMeans set d t w
  window-means None e = struck set l d t v room ((finds-window set d t).none.0 (sym e))
  window-means (Some (i, j)) e = let w = (finds-window set d t).some i j (sym e) in record { is = w; apart = outside i j w }

  pub earliest_means : (p : Option ℕ) → p ≡ first_passed set d t → EarliestMeans set d t p
  unfolding struck_at first_passed
  earliest_means None e = struck set l d t v room (subst (λ o. MatchOption o (every (part set d t) (2 ^ d) ≡ true) (First (part set d t) (2 ^ d))) (sym e) (first-says (part set d t) (2 ^ d)))
  earliest_means (Some i) e = λ n h.
      let f = MatchOption-at_some (every (part set d t) (2 ^ d) ≡ true) (First (part set d t) (2 ^ d)) i (sym e) (first-says (part set d t) (2 ^ d)) in
      l.apart (subinterval d n t) (valid-subinterval t v d n room (omega (arith, f.within))) (f.before n h)
