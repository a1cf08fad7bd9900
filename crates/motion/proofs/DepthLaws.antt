-- Struck at a depth, for every set that keeps the laws.
use Rattle.std.proofs.Common.{◌≡◌, ℕ, zero, suc, ◌+◌, ◌^◌, ◌≤◌, Bool, true, ◌&&◌, sym, ap, ◌∙◌, arith}
use mathlib.Core.Bool.{and-true, and_assoc}
use Rattle.std.proofs.lemmas.Bool.{and_parts, and_from}
use Rattle.motion.specs.declared.shapes.Shape.{Shape}
use Rattle.motion.specs.Laws.{Valid, gap, Apart, Lawful, subinterval, half}
use Rattle.motion.specs.Depths.{every, struck_at, Struck}
use Rattle.motion.proofs.Subintervals.{twice, in-first, in-last, whole, valid-first, valid-last}
use Rattle.motion.proofs.HalvesApart.{halves-apart}

every-more : (f : ℕ → Bool) (m n : ℕ) → every f (m + n) ≡ (every f m && every (λ j. f (m + j)) n)
every-more f m zero = let e : m + 0 ≡ m = omega arith in ap (every f) e ∙ sym (and-true (every f m))
every-more f m (suc n) =
    let e : m + suc n ≡ suc (m + n) = omega arith in
    ap (every f) e ∙ ap (λ b. b && f (m + n)) (every-more f m n) ∙ and_assoc (every f m) (every (λ j. f (m + j)) n) (f (m + n))

module _ (set : Shape → Bool) where
  pub struck-whole : (t : Shape) → struck_at set 0 t ≡ set t
  unfolding struck_at
  struck-whole t = ap set (whole t)

  -- all parts of the whole are those of its first half, and those of its last
  pub struck-step : (d : ℕ) (t : Shape) → struck_at set (suc d) t ≡ (struck_at set d (half 0 t) && struck_at set d (half 1 t))
  unfolding struck_at
  struck-step d t =
      ap (every part) (twice d) ∙ every-more part (2 ^ d) (2 ^ d)
      ∙ (λ i. every (λ j. set (in-first t d j i)) (2 ^ d) && every (λ j. set (in-last t d j i)) (2 ^ d))
    where
      part : ℕ → Bool
      part j = set (subinterval (suc d) j t)

module _ (set : Shape → Bool) (l : Lawful set) where
  -- struck whole is struck in every part
  pub whole-struck : (d : ℕ) (t : Shape) → Valid t → t.scale + d ≤ 6 → set t ≡ true → struck_at set d t ≡ true
  whole-struck zero t v k h = struck-whole set t ∙ h
  whole-struck (suc d) t v k h =
      let c : t.scale ≤ 5 = omega arith in
      let s = l.halves t v c h in
      struck-step set d t ∙ and_from _ _ (whole-struck d (half 0 t) (valid-first t v c) (omega arith) s.0) (whole-struck d (half 1 t) (valid-last t v c) (omega arith) s.1)

  parts : (d : ℕ) (t : Shape) → struck_at set (suc d) t ≡ true → (struck_at set d (half 0 t) ≡ true) × (struck_at set d (half 1 t) ≡ true)
  parts d t h = and_parts _ _ (sym (struck-step set d t) ∙ h)

  apart : (d : ℕ) (t : Shape) → Valid t → t.scale + d ≤ 6 → struck_at set d t ≡ true → Apart t
  apart zero t v k h = l.apart t v (sym (struck-whole set t) ∙ h)
  apart (suc d) t v k h =
      let c : t.scale ≤ 5 = omega arith in
      let s = parts d t h in
      halves-apart gap t (apart d (half 0 t) (valid-first t v c) (omega arith) s.0) (apart d (half 1 t) (valid-last t v c) (omega arith) s.1)

  deeper : (d e : ℕ) (t : Shape) → Valid t → d ≤ e → t.scale + e ≤ 6 → struck_at set d t ≡ true → struck_at set e t ≡ true
  deeper zero e t v le k h = whole-struck e t v k (sym (struck-whole set t) ∙ h)
  deeper (suc d) zero t v le k h = absurd (omega arith)
  deeper (suc d) (suc e) t v le k h =
      let c : t.scale ≤ 5 = omega arith in
      let s = parts d t h in
      struck-step set e t
      ∙ and_from _ _ (deeper d e (half 0 t) (valid-first t v c) (omega arith) (omega arith) s.0) (deeper d e (half 1 t) (valid-last t v c) (omega arith) (omega arith) s.1)

  pub struck : (d : ℕ) (t : Shape) → Valid t → t.scale + d ≤ 6 → struck_at set d t ≡ true → Struck set d t
  struck d t v k h = record { apart = apart d t v k h; deeper = λ e c r. deeper d e t v c r h }
