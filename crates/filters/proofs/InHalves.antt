-- The earliest subinterval that is passed comes from those of the halves.
use Rattle.std.proofs.Common.{◌≡◌, ℕ, suc, ◌+◌, ◌-◌, ◌^◌, ◌<◌, ◌≤◌, Bool, true, false, cond, Option, Some, None, is_some, IfSome, nat_le, sym, refl, ap, ◌∙◌, arith}
use Rattle.std.specs.Option.{option_or, option_map}
use Rattle.motion.specs.declared.shapes.Shape.{Shape}
use Rattle.motion.specs.Laws.{half, Lawful, Valid}
use Rattle.motion.specs.Depths.{first_passed, window_at}
use Rattle.motion.specs.Earliest.{put_until, EarliestMeans, first_of}
use Rattle.std.proofs.lemmas.Bool.{both_ways, leb-true}
use Rattle.motion.proofs.Subintervals.{twice}
use Rattle.motion.proofs.Windows.{first_at_whole, first_step, first_below, first_of_window, earliest_means}
use Rattle.filters.specs.FirstParts.{earliest_at}
use Rattle.filters.specs.inner.Halves.{behind_first_half}
use Rattle.filters.specs.declared.first_parts.Earliest.{Earliest}

abbrev found : ℕ → Option ℕ → Earliest
found d p = record { part = p; put = put_until d p }

-- of two halves with 2^d subintervals each, where the first has one, and where it has none
before : (d : ℕ) (o p : Option ℕ) → is_some o ≡ true → found d o ≡ found (suc d) (option_or o (option_map (λ k. 2 ^ d + k) p))
before d None p h = absurd (both_ways false refl h)
before d (Some i) p h = refl

behind : (d : ℕ) (o p : Option ℕ) → is_some o ≡ false → behind_first_half d (found d p) ≡ found (suc d) (option_or o (option_map (λ k. 2 ^ d + k) p))
unfolding behind_first_half
behind d (Some i) p h = absurd (both_ways true h refl)
behind d None None h = λ i. record { part = None; put = sym (twice d) i }
behind d None (Some k) h = λ i. record { part = Some (2 ^ d + k); put = one_more i }
  where
    one_more : 2 ^ d + (k + 1) ≡ 2 ^ d + k + 1
    one_more = omega arith

at_most : (d : ℕ) (o : Option ℕ) → IfSome o (λ k. k < 2 ^ d) → put_until d o ≤ 2 ^ d
at_most d None h = omega arith
at_most d (Some i) h = omega (arith, h)

module _ (set : Shape → Bool) (d : ℕ) (t : Shape) where
  -- at depth 0 the whole decides
  pub at_whole : d ≡ 0 → earliest_at set d t ≡ record { part = cond (set t) None (Some 0); put = 1 }
  unfolding earliest_at
  at_whole e = rw (first_at_whole set d t e, e) (one (set t))
    where
      one : (b : Bool) → found 0 (cond b None (Some 0)) ≡ record { part = cond b None (Some 0); put = 1 }
      one true = refl
      one false = refl

  -- by what was found in the halves p and q
  by_halves : (o p : Option ℕ) → 0 < d → o ≡ first_passed set (d - 1) (half 0 t) → p ≡ first_passed set (d - 1) (half 1 t)
      → found (suc (d - 1)) (option_or o (option_map (λ k. 2 ^ (d - 1) + k) p)) ≡ earliest_at set d t
  unfolding earliest_at
  by_halves o p h e f =
      let s : suc (d - 1) ≡ d = omega arith in
      rw (s, e, f) (ap (found d) (sym (first_step set d t h)))

  pub in_first_half : (p : Shape) (early : Earliest) → 0 < d → p ≡ half 0 t → early ≡ earliest_at set (d - 1) p → is_some early.part ≡ true → early ≡ earliest_at set d t
  unfolding earliest_at
  in_first_half p early h e f k =
      rw (f, e) (before (d - 1) (first_passed set (d - 1) (half 0 t)) (first_passed set (d - 1) (half 1 t)) (ap (λ (x : Earliest). is_some x.part) (sym (f ∙ ap (earliest_at set (d - 1)) e)) ∙ k)
      ∙ by_halves _ _ h refl refl)

  pub in_last_half : (p q : Shape) (early late r : Earliest) → 0 < d → p ≡ half 0 t → early ≡ earliest_at set (d - 1) p → false ≡ is_some early.part
      → q ≡ half 1 t → late ≡ earliest_at set (d - 1) q → r ≡ behind_first_half (d - 1) late → r ≡ earliest_at set d t
  unfolding earliest_at
  in_last_half p q early late r h e f k g l m =
      rw (m, l, g) (behind (d - 1) (first_passed set (d - 1) (half 0 t)) (first_passed set (d - 1) (half 1 t)) (ap (λ (x : Earliest). is_some x.part) (sym (f ∙ ap (earliest_at set (d - 1)) e)) ∙ sym k)
      ∙ by_halves _ _ h refl refl)

  pub few : (e : Earliest) → e ≡ earliest_at set d t → e.put ≤ 2 ^ d
  unfolding earliest_at
  few e h = rw h (at_most d (first_passed set d t) (first_below set d t _ refl))

  pub below : (e : Earliest) → e ≡ earliest_at set d t → IfSome e.part (λ k. k < 2 ^ d)
  unfolding earliest_at
  below e h = rw h (first_below set d t _ refl)

  -- what was found is the first of the window
  pub of_window : (e : Earliest) → e ≡ earliest_at set d t → e.part ≡ first_of (window_at set d t)
  unfolding earliest_at
  of_window e h = ap (λ (x : Earliest). x.part) h ∙ first_of_window set d t

  pub apart_before : Lawful set → Valid t → true ≡ nat_le (t.scale + d) 6 → (e : Earliest) → e ≡ earliest_at set d t → EarliestMeans set d t e.part
  unfolding earliest_at
  apart_before l v room e h = earliest_means set l d t v (leb-true (t.scale + d) 6 (sym room)) e.part (ap (λ (x : Earliest). x.part) h)
