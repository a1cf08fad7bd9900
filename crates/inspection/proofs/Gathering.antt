-- What a list holds of a history's tests, up to one of them.
use Rattle.std.proofs.Common.{◌≡◌, ◌⊎◌, ℕ, zero, suc, ◌<◌, Bool, true, false, ◌||◌, cond, fold, List, [], ◌∷◌, ◌++◌, All, AllPairs, Some, get_or, length, sym, refl, ap, ◌∙◌, subst, subst₂, inl, inr, ⊎_elim, arith}
use Rattle.std.proofs.Math.Bool.{or-false}
use Rattle.std.specs.Cmp.{IsEquivalence}
use Rattle.std.specs.List.{list_any, slice_get}
use Rattle.std.proofs.lemmas.Bool.{both_ways, or_cases, or_left, or_right, false≢true}
use Rattle.std.proofs.lemmas.List.Quantifiers.{all_pairs_push}
use Rattle.std.proofs.lemmas.List.Folds.{list_any-append, list_any_at}
use Rattle.std.proofs.lemmas.Option.{slice_get_within, get_or_from_slice_get}
use Rattle.motion.specs.declared.shapes.Shape.{Shape}
use Rattle.motion.specs.Depths.{struck_at}
use Rattle.inspection.specs.declared.classes.Class.TheVariants.{Kept, Struck, Shared, Repeated}
use Rattle.inspection.specs.Sheets.{Sheet}
use Rattle.inspection.specs.Tests.{Naming}
use Rattle.inspection.specs.Lists.{has}
use Rattle.inspection.specs.Classes.{Rules, rules_at, class_of, entries_after_one, entries_after}
use Rattle.inspection.specs.Offers.{entries_by}
use Rattle.inspection.specs.Runs.{Accepted}
use Rattle.inspection.specs.Claims.{PassedAt, PassedBefore, StandsBefore}
use Rattle.inspection.proofs.NamingLaws.{NamingLaws}

-- ---- what stands at a number of a list, and what a list has
module _ {A : Type 0} where
  abbrev pub At : List A → ℕ → A → Type 0
  At xs i x = slice_get xs i ≡ Some x

  -- what holds of all holds at each number
  pub at-all : (P : A → Type 0) (xs : List A) (i : ℕ) (x : A) → All P xs → At xs i x → P x
  at-all P xs i x all e = subst P (get_or_from_slice_get xs i x x e) (all i x (slice_get_within xs i x e))

  -- what each turn of a fold carries on to the next
  pub folded : {B : Type 0} (f : B → A → B) (P : ℕ → B → Type 0) (xs : List A) → ((i : ℕ) (x : A) (b : B) → At xs i x → P i b → P (suc i) (f b x)) → (b : B) → P zero b
      → P (length xs) (fold f b xs)
  folded f P [] step b p = p
  folded f P (x ∷ xs) step b p = folded f (λ i. P (suc i)) xs (λ i. step (suc i)) (f b x) (step zero x b refl p)

module _ {E : Type 0} (same : E → E → Bool) where
  -- with one more
  pub has-push : (es : List E) (x e : E) → has same e (es ++ (x ∷ [])) ≡ (has same e es || same e x)
  has-push es x e = list_any-append (same e) es (x ∷ []) ∙ ap (λ b. has same e es || b) (or-false (same e x))

  -- of two that are the same both are listed, or none
  pub has-same : IsEquivalence same → (es : List E) (d e : E) → same d e ≡ true → has same d es ≡ has same e es
  has-same laws es d e s = λ i. list_any (λ x. laws.congr d e x s i) es

-- ---- the order of numbers
-- before the next number: before this one, or at it
last : (i j a k : ℕ) → StandsBefore i j a (suc k) → StandsBefore i j a k ⊎ ((i ≡ a) × (j ≡ k))
last i j a k b = grind arith

-- what is before a number is before all that is not
apart : (p q i j a k : ℕ) → StandsBefore p q a k → (StandsBefore i j a k → ⊥) → StandsBefore p q i j
apart p q i j a k b n = grind arith

module _ {E : Type 0} (n : Naming E) (set : Shape → Bool) (sheet : Sheet) where
  -- what is listed after these offers
  abbrev pub listing : List Accepted → List E
  listing h = fold (λ es o. entries_by n set o.depth sheet o.what es) [] h

  module _ (each : ℕ) (named : NamingLaws n each sheet) (h : List Accepted) where
    abbrev Passed : E → ℕ → ℕ → Type 0
    Passed = PassedAt n set sheet h

    -- what is the same as a test was passed where that was
    pub passed-as : (e x : E) (i j : ℕ) → n.same e x ≡ true → Passed x i j → Passed e i j
    passed-as e x i j s w =
        record { offer = w.offer; test = w.test; accepted = w.accepted; holds = w.holds; same = named.equivalence.congr e x w.test s ∙ w.same; unshared = w.unshared; passed = w.passed }

    -- of the tests before number k of the offer i
    pub record Upto (i k : ℕ) (es : List E) : Type 0 where
      pub listed : (e : E) → has n.same e es ≡ true → (p : ℕ) × ((q : ℕ) × (Passed e p q × StandsBefore p q i k))
      pub passed : (e : E) (p q : ℕ) → Passed e p q → StandsBefore p q i k → has n.same e es ≡ true
      pub order : AllPairs (PassedBefore n set sheet h) es

    -- one test more
    more : (i k : ℕ) (es new : List E) → Upto i k es → ((e : E) → has n.same e new ≡ true → (has n.same e es ≡ true) ⊎ Passed e i k)
        → ((e : E) → (has n.same e es ≡ true) ⊎ Passed e i k → has n.same e new ≡ true) → AllPairs (PassedBefore n set sheet h) new → Upto i (suc k) new
    more i k es new u old all order =
        record {
          listed = λ e t. ⊎_elim (λ r. let (p, (q, (w, b))) = u.listed e r in (p, (q, (w, grind (arith, b))))) (λ w. (i, (k, (w, grind arith)))) (old e t);
          passed = λ e p q w b. all e (⊎_elim (λ c. inl (u.passed e p q w c)) (λ (c, d). inr (subst₂ (Passed e) c d w)) (last p q i k b));
          order = order;
        }

    -- which adds nothing
    skip : (i k : ℕ) (es : List E) → Upto i k es → ((e : E) → Passed e i k → has n.same e es ≡ true) → Upto i (suc k) es
    skip i k es u f = more i k es es u (λ e t. inl t) (λ e t. ⊎_elim (λ r. r) (f e) t) u.order

    -- which is added at the end
    keep : (i k : ℕ) (es : List E) (x : E) → Upto i k es → has n.same x es ≡ false → Passed x i k → ((e : E) → Passed e i k → n.same e x ≡ true) → Upto i (suc k) (es ++ (x ∷ []))
    keep i k es x u new w only_one =
        more i k es (es ++ (x ∷ [])) u
        (λ e t. ⊎_elim (λ r. inl r) (λ r. inr (passed-as e x i k r w)) (or_cases (has n.same e es) (n.same e x) (sym (has-push n.same es x e) ∙ t)))
        (λ e t. has-push n.same es x e ∙ ⊎_elim (or_left (has n.same e es) (n.same e x)) (λ v. or_right (has n.same e es) (n.same e x) (only_one e v)) t)
        (all_pairs_push (PassedBefore n set sheet h) es x u.order before)
      where
        before : (a : ℕ) (d : E) → a < length es → PassedBefore n set sheet h (get_or es a d) x
        before a d l =
            let y = get_or es a d in
            let (p, (q, (v, b))) = u.listed y (list_any_at (n.same y) es a d l (named.equivalence.refl y)) in
            (p, (q, (v, λ i' j' f. apart p q i' j' i k b (λ c. both_ways (has n.same x es) new (u.passed x i' j' f c)))))

    -- ---- the tests of an offer
    module _ (i : ℕ) (o : Accepted) (there : At h i o) where
      abbrev by : Rules E
      by = rules_at n set o.depth sheet

      abbrev ts : List E
      ts = n.tests sheet o.what

      -- one of them, by its class
      one : (k : ℕ) (x : E) (es : List E) → At (n.tests sheet o.what) k x → Upto i k es → Upto i (suc k) (entries_after_one (class_of by es x) es x)
      one k x es p u = go (n.shared sheet x) (struck_at set o.depth (n.shape sheet x)) (has n.same x es) refl refl refl
        where
          -- what is passed here is this test
          is : (e : E) → Passed e i k → (n.same e x ≡ true) × (n.shared sheet x ≡ false) × (struck_at set o.depth (n.shape sheet x) ≡ false)
          is e w =
              let a : w.offer ≡ o = cc in
              let b : w.test ≡ x = cc in
              (cc, cc, cc)

          go : (a b c : Bool) → n.shared sheet x ≡ a → struck_at set o.depth (n.shape sheet x) ≡ b → has n.same x es ≡ c
              → Upto i (suc k) (entries_after_one (cond a Shared (cond b Struck (cond c Repeated Kept))) es x)
          go true b c d e f = skip i k es u (λ y w. absurd (both_ways (n.shared sheet x) (is y w).1 d))
          go false true c d e f = skip i k es u (λ y w. absurd (both_ways (struck_at set o.depth (n.shape sheet x)) (is y w).2 e))
          go false false true d e f = skip i k es u (λ y w. has-same n.same named.equivalence es y x (is y w).0 ∙ f)
          go false false false d e f =
              keep i k es x u f (record { offer = o; test = x; accepted = there; holds = p; same = named.equivalence.refl x; unshared = d; passed = e }) (λ y w. (is y w).0)

      -- all of them
      offer : (es : List E) → Upto i 0 es → Upto (suc i) 0 (entries_after by es ts)
      offer es u =
          let all : Upto i (length ts) (entries_after by es ts) = folded (λ old e. entries_after_one (class_of by old e) old e) (Upto i) ts one es u in
          record {
            listed = λ e t. let (p, (q, (w, b))) = all.listed e t in (p, (q, (w, grind (arith, b))));
            passed = λ e p q w b. all.passed e p q w (grind (arith, b, within e p q w));
            order = all.order;
          }
        where
          within : (e : E) (p q : ℕ) → Passed e p q → p ≡ i → q < length ts
          within e p q w c = let a : w.offer ≡ o = cc in slice_get_within ts q w.test (subst (λ (z : Accepted). At (n.tests sheet z.what) q w.test) a w.holds)

    -- ---- all of its offers
    pub gathered : Upto (length h) 0 (listing h)
    gathered =
        folded (λ es o. entries_by n set o.depth sheet o.what es) (λ i es. Upto i 0 es) h (λ i o es a u. offer i o a es u) []
        (record { listed = λ e t. absurd (false≢true t); passed = λ e p q w b. absurd (grind arith); order = λ a b d s t. absurd (omega arith) })
