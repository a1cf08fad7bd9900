-- Where both halves of a step stay apart, so does the whole.
use Rattle.std.proofs.Common.{◌≡◌, ℕ, ◌+◌, ◌-◌, ◌*◌, ◌^◌, ◌≤◌, List, [], ◌∷◌, map, length, ℤ, pos, ◌-ℤ◌, ◌*ℤ◌, nat_abs, sym, refl, ap, ◌∙◌, subst, arith}
use native.Mathlib.Decide.{dec_le}
use borrow.Author.Differences.{ints}
use Rattle.std.proofs.lemmas.List.{length-map}
use Rattle.std.proofs.lemmas.Nat.{pow-add}
use Rattle.std.proofs.lemmas.Int.{unsigned_abs-mul}
use Rattle.motion.specs.declared.shapes.V3.{V3}
use Rattle.motion.specs.declared.shapes.Moving.{Moving}
use Rattle.motion.specs.declared.shapes.Shape.{Shape}
use Rattle.motion.specs.Vectors.{◌+ᵛ◌, ◌-ᵛ◌, ◌·ᵛ◌}
use Rattle.motion.specs.Features.{first, second}
use Rattle.motion.specs.Laws.{FarBy, on-x, on-y, on-z, ApartAt, ApartBy, at, portion, half, weighted, weight_sum, difference}
use Rattle.motion.proofs.Integers.{scales}
use Rattle.motion.proofs.Products.{same}
use Rattle.motion.proofs.Halves.{at_start, at_middle, at_end, ones-of, others-of}

-- ---- the same position, on the finer grid
first-at : (p q : ℕ) (m : Moving) → at (2 * p) q (portion 1 0 m) ≡ pos 2 ·ᵛ at p q m
unfolding at ◌+ᵛ◌ ◌·ᵛ◌
first-at p q m = rw (at_start m, at_middle m) (same (simp scales (omega (arith, ints))))

last-at : (p q : ℕ) → q ≤ 2 * p → (m : Moving) → at (2 * p - q) q (portion 1 1 m) ≡ pos 2 ·ᵛ at p q m
unfolding at ◌+ᵛ◌ ◌·ᵛ◌
last-at p q h m = rw (at_middle m, at_end m, past) (same (simp scales (omega (arith, ints))))
  where
    past : pos (2 * p - q) ≡ pos 2 *ℤ pos p -ℤ pos q
    past = omega (arith, ints)

-- ---- a mean of doubled points is doubled
doubled-sum : (w : ℕ) (u v : V3) → pos w ·ᵛ (pos 2 ·ᵛ u) +ᵛ pos 2 ·ᵛ v ≡ pos 2 ·ᵛ (pos w ·ᵛ u +ᵛ v)
unfolding ◌+ᵛ◌ ◌·ᵛ◌
doubled-sum w u v = same (simp scales (omega (arith, ints)))

doubled-minus : (a b : ℕ) (u v : V3) → pos a ·ᵛ (pos 2 ·ᵛ u) -ᵛ pos b ·ᵛ (pos 2 ·ᵛ v) ≡ pos 2 ·ᵛ (pos a ·ᵛ u -ᵛ pos b ·ᵛ v)
unfolding ◌-ᵛ◌ ◌·ᵛ◌
doubled-minus a b u v = same (simp scales (omega (arith, ints)))

module _ (f g : Moving → V3) (h : Moving → Moving) (doubled : (m : Moving) → f (h m) ≡ pos 2 ·ᵛ g m) where
  weighted-doubled : (ws : List ℕ) (ms : List Moving) → weighted ws (map f (map h ms)) ≡ pos 2 ·ᵛ weighted ws (map g ms)
  unfolding ◌·ᵛ◌
  weighted-doubled [] ms = refl
  weighted-doubled (w ∷ ws) [] = refl
  weighted-doubled (w ∷ ws) (m ∷ ms) = (λ i. pos w ·ᵛ doubled m i +ᵛ weighted-doubled ws ms i) ∙ doubled-sum w (g m) (weighted ws (map g ms))

-- ---- what is far on the finer grid is far on the coarser
coarser : (g k n : ℕ) (x : ℤ) → g * 2 ^ (k + 1) * n ≤ nat_abs (pos 2 *ℤ x) * 2 ^ 49 → g * 2 ^ k * n ≤ nat_abs x * 2 ^ 49
coarser g k n x h = omega (arith, unsigned_abs-mul (pos 2) x, ap (λ (m : ℕ). g * m * n) (pow-add 2 k 1))

far-coarser : (g k n : ℕ) (v : V3) → FarBy g (k + 1) n (pos 2 ·ᵛ v) → FarBy g k n v
unfolding ◌·ᵛ◌
far-coarser g k n v (on-x h) = on-x (coarser g k n v.x h)
far-coarser g k n v (on-y h) = on-y (coarser g k n v.y h)
far-coarser g k n v (on-z h) = on-z (coarser g k n v.z h)

module _ (g : ℕ) (t : Shape) (j p p' q : ℕ) (doubled : (m : Moving) → at p' q (portion 1 j m) ≡ pos 2 ·ᵛ at p q m) where
  by-half : ApartBy g (half j t) → 1 ≤ q → p' ≤ q → ApartAt g p q t
  by-half h hq hp ws us (lw, hw) (lu, hu) =
      far-coarser g t.scale n (difference p q ws (first t) us (second t))
      (subst (λ (v : V3). FarBy g (t.scale + 1) n v) twice
      (h p' q hq hp ws us (lw ∙ sym (length-map (first t) (portion 1 j)) ∙ ap length (ones-of t j), hw) (lu ∙ sym (length-map (second t) (portion 1 j)) ∙ ap length (others-of t j), hu)))
    where
      n : ℕ
      n = weight_sum ws * weight_sum us * q

      twice : difference p' q ws (first (half j t)) us (second (half j t)) ≡ pos 2 ·ᵛ difference p q ws (first t) us (second t)
      twice =
          (λ i. difference p' q ws (sym (ones-of t j) i) us (sym (others-of t j) i))
          ∙ (λ i. pos (weight_sum us) ·ᵛ weighted-doubled (at p' q) (at p q) (portion 1 j) doubled ws (first t) i -ᵛ pos (weight_sum ws) ·ᵛ weighted-doubled (at p' q) (at p q) (portion 1 j) doubled us (second t) i)
          ∙ doubled-minus (weight_sum us) (weight_sum ws) (weighted ws (map (at p q) (first t))) (weighted us (map (at p q) (second t)))

pub halves-apart : (g : ℕ) (t : Shape) → ApartBy g (half 0 t) → ApartBy g (half 1 t) → ApartBy g t
halves-apart g t first last p q hq hp = go (dec_le (2 * p) q)
  where
    go : Dec (2 * p ≤ q) → ApartAt g p q t
    go (yes h) = by-half g t 0 p (2 * p) q (first-at p q) first hq h
    go (no h) = by-half g t 1 p (2 * p - q) q (last-at p q (omega arith)) last hq (omega arith)
