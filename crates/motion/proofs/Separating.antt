-- A direction along which each point of one feature is beyond each of the other keeps any two
-- points of theirs apart.
use Rattle.std.proofs.Common.{◌≡◌, ℕ, ◌+◌, ◌*◌, ◌^◌, ◌<◌, ◌≤◌, List, [], ◌∷◌, map, length, ℤ, pos, negsuc, ◌+ℤ◌, ◌-ℤ◌, ◌*ℤ◌, neg_ℤ, nat_abs, ◌≤ℤ◌, mul-le-mul_left, mul-pos, arith}
use borrow.Author.Differences.{ints}
use Rattle.motion.specs.declared.shapes.V3.{V3}
use Rattle.motion.specs.declared.shapes.Moving.{Moving}
use Rattle.motion.specs.declared.shapes.Shape.{Shape}
use Rattle.motion.specs.Vectors.{◌-ᵛ◌, ◌·ᵛ◌, dot}
use Rattle.motion.specs.Features.{first, second}
use Rattle.motion.specs.Laws.{ApartAt, gap, at, weighted, weight_sum}
use Rattle.motion.proofs.Integers.{*-distl, *-neg, products, times-ge}
use Rattle.motion.proofs.Products.{dot-sum, dot-minus, dot-times, dot-origin}
use Rattle.motion.proofs.Gaps.{size, far-by}
use Rattle.motion.proofs.Members.{Each, each-map}

-- the product of each pair with d is at least n
abbrev pub Beyond : V3 → ℕ → (Moving → V3) → List Moving → List Moving → Type 0
Beyond d n f ms os = Each (λ m. Each (λ o. pos n ≤ℤ dot d (f m -ᵛ f o)) os) ms

add-up : (k x y m : ℤ) (n w W : ℕ) → pos n ≤ℤ (k *ℤ x -ℤ y) → pos (W * n) ≤ℤ (k *ℤ m -ℤ pos W *ℤ y)
    → pos ((w + W) * n) ≤ℤ (k *ℤ (pos w *ℤ x +ℤ m) -ℤ pos (w + W) *ℤ y)
add-up k x y m n w W h i = omega (arith, ints, times-ge w n (k *ℤ x -ℤ y) h, moved, *-distl k (pos w *ℤ x) m)
  where
    moved : pos w *ℤ (k *ℤ x -ℤ y) ≡ k *ℤ (pos w *ℤ x) -ℤ pos w *ℤ y
    moved = simp products

module _ (d : V3) (f : Moving → V3) where
  -- what all points are beyond, a mean of theirs is; with k negative, what is beyond them
  mean-beyond : (k y : ℤ) (n : ℕ) (ws : List ℕ) (ms : List Moving) → length ws ≡ length ms → Each (λ m. pos n ≤ℤ (k *ℤ dot d (f m) -ℤ y)) ms
      → pos (weight_sum ws * n) ≤ℤ (k *ℤ dot d (weighted ws (map f ms)) -ℤ pos (weight_sum ws) *ℤ y)
  mean-beyond k y n [] [] e h = rw (dot-origin d) (omega (arith, ints))
  mean-beyond k y n [] (m ∷ ms) e h = absurd (omega arith)
  mean-beyond k y n (w ∷ ws) [] e h = absurd (omega arith)
  mean-beyond k y n (w ∷ ws) (m ∷ ms) e (b, h) =
      rw (dot-sum d (pos w ·ᵛ f m) (weighted ws (map f ms)), dot-times (pos w) d (f m))
      (add-up k (dot d (f m)) y (dot d (weighted ws (map f ms))) n w (weight_sum ws) b (mean-beyond k y n ws ms (omega arith) h))

  means-apart : (n : ℕ) (ws us : List ℕ) (ms os : List Moving) → length ws ≡ length ms → length us ≡ length os → Beyond d n f ms os
      → weight_sum ws * weight_sum us * n ≤ nat_abs (dot d (pos (weight_sum us) ·ᵛ weighted ws (map f ms) -ᵛ pos (weight_sum ws) ·ᵛ weighted us (map f os)))
  means-apart n ws us ms os ew eu h =
      rw (dot-minus d (pos (weight_sum us) ·ᵛ weighted ws (map f ms)) (pos (weight_sum ws) ·ᵛ weighted us (map f os)), dot-times (pos (weight_sum us)) d (weighted ws (map f ms)), dot-times (pos (weight_sum ws)) d (weighted us (map f os)))
      (sized _ _ _ (mean-beyond (pos (weight_sum us)) (dot d (weighted us (map f os))) (weight_sum us * n) ws ms ew (each-map one ms h)))
    where
      one : (m : Moving) → Each (λ o. pos n ≤ℤ dot d (f m -ᵛ f o)) os → pos (weight_sum us * n) ≤ℤ (pos (weight_sum us) *ℤ dot d (f m) -ℤ dot d (weighted us (map f os)))
      one m b =
          turned (weight_sum us) (dot d (f m)) (dot d (weighted us (map f os)))
          (mean-beyond (negsuc 0) (neg_ℤ (dot d (f m))) n us os eu (each-map (λ o c. omega (arith, ints, dot-minus d (f m) (f o))) os b))
        where
          turned : (u : ℕ) (x y : ℤ) → pos (u * n) ≤ℤ (negsuc 0 *ℤ y -ℤ pos u *ℤ neg_ℤ x) → pos (u * n) ≤ℤ (pos u *ℤ x -ℤ y)
          turned u x y g = omega (arith, ints, *-neg (pos u) x)

      sized : (w u : ℕ) (z : ℤ) → pos (w * (u * n)) ≤ℤ z → w * u * n ≤ nat_abs z
      sized w u z g = omega (arith, ints)

-- at p/q, along a direction of at most the size L
pub apart-along : (t : Shape) (p q : ℕ) (d : V3) (L n : ℕ) → size d ≤ L → L * (2 ^ t.scale * q) < n * 2 ^ 49
    → Beyond d n (at p q) (first t) (second t) → ApartAt gap p q t
apart-along t p q d L n short room beyond ws us (ew, hw) (eu, hu) =
    far-by t.scale (weight_sum ws * weight_sum us * q) L (weight_sum ws * weight_sum us * n) d _ short (means-apart d (at p q) n ws us (first t) (second t) ew eu beyond)
    (scaled (2 ^ t.scale) (weight_sum ws * weight_sum us) (mul-pos hw hu) room)
  where
    scaled : (A T : ℕ) → 1 ≤ T → L * (A * q) < n * 2 ^ 49 → L * (A * (T * q)) < T * n * 2 ^ 49
    scaled A T h r = omega (arith, mul-le-mul_left T r)
