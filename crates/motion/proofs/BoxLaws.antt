-- Box keeps both laws, and Slab strikes what it strikes.
use Rattle.std.proofs.Common.{◌≡◌, ℕ, zero, suc, ◌<◌, ◌≤◌, Bool, true, false, ◌&&◌, ◌||◌, List, [], ◌∷◌, map, ℤ, pos, ◌+ℤ◌, ◌-ℤ◌, ◌≤ℤ◌, get_or, refl, sym, ap, ◌∙◌, ⊎_elim, arith}
use lib.Signed.{lt_z, ≤ℤ_refl}
use borrow.Author.Differences.{ints}
use Rattle.std.specs.Int.{int_min, int_max}
use Rattle.std.specs.List.{list_all}
use Rattle.std.proofs.lemmas.Int.{clamps}
use Rattle.std.proofs.lemmas.Bool.{or_cases, or_left, or_right, and_from}
use Rattle.std.proofs.lemmas.List.Folds.{list_any_at}
use Rattle.motion.specs.declared.shapes.V3.{V3}
use Rattle.motion.specs.declared.shapes.Moving.{Moving}
use Rattle.motion.specs.declared.shapes.Shape.{Shape}
use Rattle.motion.specs.Vectors.{◌+ᵛ◌, ◌-ᵛ◌, dot, vector, origin}
use Rattle.motion.specs.Features.{first, second}
use Rattle.motion.specs.Laws.{Within, Lawful, portion, half}
use Rattle.motion.specs.Box.{extreme, coordinates, under, parted_on, box_set}
use Rattle.motion.specs.Slab.{pairs, above, below, parted_along, directions, slab_set}
use Rattle.motion.specs.Plane.{plane_set}
use Rattle.motion.specs.Rows.{IsPartOf, delivered, with_box}
use Rattle.motion.proofs.Products.{dot-sum, dot-minus}
use Rattle.motion.proofs.Members.{Each, each-to-all}
use Rattle.motion.proofs.Halves.{at_start, at_middle, at_end, ones-of, others-of}
use Rattle.motion.proofs.SlabLaws.{along-lawful}
use Rattle.motion.proofs.RowLaws.{row-lawful}

-- an axis is the product with a short direction
pub record Axis (axis : V3 → ℤ) : Type 0 where
  pub way : V3
  pub within : Within 1 way
  pub product : (v : V3) → dot way v ≡ axis v

-- a bound: from above what `int_max` tells of two, from below what `int_min` does
record Bound (f : ℤ → ℤ → ℤ) (R : ℤ → ℤ → Type 0) : Type 0 where
  parts : (x y z : ℤ) → R (f x y) z → R x z × R y z
  from : (x y z : ℤ) → R x z → R y z → R (f x y) z
  adds : (x y z : ℤ) → R x z → R y z → R (x +ℤ y) (z +ℤ z)

above-all : Bound int_max (λ x z. x ≤ℤ z)
above-all =
    record { parts = λ x y z h. omega (arith, ints, clamps); from = λ x y z p q. omega (arith, ints, clamps); adds = λ x y z p q. omega (arith, ints) }

below-all : Bound int_min (λ x z. z ≤ℤ x)
below-all =
    record { parts = λ x y z h. omega (arith, ints, clamps); from = λ x y z p q. omega (arith, ints, clamps); adds = λ x y z p q. omega (arith, ints) }

module _ {axis : V3 → ℤ} (a : Axis axis) where
  sum-product : (u v : V3) → axis (u +ᵛ v) ≡ axis u +ℤ axis v
  sum-product u v = sym (a.product (u +ᵛ v)) ∙ dot-sum a.way u v ∙ (λ i. a.product u i +ℤ a.product v i)

  module _ {f : ℤ → ℤ → ℤ} {R : ℤ → ℤ → Type 0} (b : Bound f R) (z : ℤ) where
    abbrev Bounded : Moving → Type 0
    Bounded m = R (axis m.start) z × R (axis m.end) z

    bounded : (ms : List Moving) → R (extreme f (coordinates axis ms)) z → Each Bounded ms
    bounded [] h = tt
    bounded (m ∷ []) h = (b.parts _ _ z h, tt)
    bounded (m ∷ n ∷ ms) h =
        let p = b.parts _ _ z h in
        let q = b.parts _ _ z p.1 in ((p.0, q.0), bounded (n ∷ ms) q.1)

    -- a half's coordinates are sums of two of the whole's
    half-point : (j : ℕ) (m : Moving) → j ≤ 1 → Bounded m → R (axis (portion 1 j m).start) (z +ℤ z) × R (axis (portion 1 j m).end) (z +ℤ z)
    half-point zero m le (p, q) = (rw (at_start m, sum-product m.start m.start) (b.adds _ _ z p p), rw (at_middle m, sum-product m.start m.end) (b.adds _ _ z p q))
    half-point (suc zero) m le (p, q) = (rw (at_middle m, sum-product m.start m.end) (b.adds _ _ z p q), rw (at_end m, sum-product m.end m.end) (b.adds _ _ z q q))
    half-point (suc (suc j)) m le p = absurd (omega arith)

    half-bounded : (j : ℕ) (ms : List Moving) → j ≤ 1 → R (extreme f (coordinates axis ms)) z → R (extreme f (coordinates axis (map (portion 1 j) ms))) (z +ℤ z)
    half-bounded j [] le h = b.adds _ _ z h h
    half-bounded j (m ∷ []) le h = let p = half-point j m le (b.parts _ _ z h) in b.from _ _ _ p.0 p.1
    half-bounded j (m ∷ n ∷ ms) le h =
        let p = b.parts _ _ z h in
        let q = b.parts _ _ z p.1 in
        let r = half-point j m le (p.0, q.0) in b.from _ _ _ r.0 (b.from _ _ _ r.1 (half-bounded j (n ∷ ms) le q.1))

  -- ---- the halves
  under-half : (j : ℕ) (ms ns : List Moving) → j ≤ 1 → under axis ms ns ≡ true → under axis (map (portion 1 j) ms) (map (portion 1 j) ns) ≡ true
  under-half j ms ns le e = less _ _ _ _ e (half-bounded above-all _ j ms le (≤ℤ_refl _)) (half-bounded below-all _ j ns le (≤ℤ_refl _))
    where
      less : (g l g' l' : ℤ) → lt_z g l ≡ true → g' ≤ℤ (g +ℤ g) → (l +ℤ l) ≤ℤ l' → lt_z g' l' ≡ true
      less g l g' l' e p q = grind (arith, ints)

  parted-half : (j : ℕ) (t : Shape) → j ≤ 1 → parted_on axis t ≡ true → parted_on axis (half j t) ≡ true
  parted-half j t le h =
      ⊎_elim (λ e. or_left _ _ (sym (λ i. under axis (ones-of t j i) (others-of t j i)) ∙ under-half j (first t) (second t) le e))
      (λ e. or_right (under axis (first (half j t)) (second (half j t))) _ (sym (λ i. under axis (others-of t j i) (ones-of t j i)) ∙ under-half j (second t) (first t) le e))
      (or_cases (under axis (first t) (second t)) (under axis (second t) (first t)) h)

  -- ---- what Box strikes on an axis, Slab strikes along it
  less : (g l : ℤ) (u v : V3) → lt_z g l ≡ true → axis u ≤ℤ g → l ≤ℤ axis v → (below a.way (u -ᵛ v) ≡ true) × (above a.way (v -ᵛ u) ≡ true)
  less g l u v e p q =
      (rw (dot-minus a.way u v, a.product u, a.product v) (under-zero (axis u) (axis v) p q), rw (dot-minus a.way v u, a.product v, a.product u) (over-zero (axis u) (axis v) p q))
    where
      under-zero : (x y : ℤ) → x ≤ℤ g → l ≤ℤ y → lt_z (x -ℤ y) (pos 0) ≡ true
      under-zero x y p q = grind (arith, ints)

      over-zero : (x y : ℤ) → x ≤ℤ g → l ≤ℤ y → lt_z (pos 0) (y -ℤ x) ≡ true
      over-zero x y p q = grind (arith, ints)

  module _ (ms ns : List Moving) (e : under axis ms ns ≡ true) where
    lows : Each (Bounded above-all (extreme int_max (coordinates axis ms))) ms
    lows = bounded above-all _ ms (≤ℤ_refl _)

    highs : Each (Bounded below-all (extreme int_min (coordinates axis ns))) ns
    highs = bounded below-all _ ns (≤ℤ_refl _)

    all-below : list_all (λ m. list_all (λ n. below a.way (m.start -ᵛ n.start) && below a.way (m.end -ᵛ n.end)) ns) ms ≡ true
    all-below = each-to-all _ (λ m p. each-to-all _ (λ n q. and_from _ _ (less _ _ m.start n.start e p.0 q.0).0 (less _ _ m.end n.end e p.1 q.1).0) ns highs) ms lows

    all-above : list_all (λ n. list_all (λ m. above a.way (n.start -ᵛ m.start) && above a.way (n.end -ᵛ m.end)) ms) ns ≡ true
    all-above = each-to-all _ (λ n q. each-to-all _ (λ m p. and_from _ _ (less _ _ m.start n.start e p.0 q.0).1 (less _ _ m.end n.end e p.1 q.1).1) ms lows) ns highs

  along : (t : Shape) → parted_on axis t ≡ true → parted_along t a.way ≡ true
  along t h =
      ⊎_elim (λ e. or_right (pairs (above a.way) t) _ (all-below (first t) (second t) e)) (λ e. or_left (pairs (above a.way) t) _ (all-above (second t) (first t) e))
      (or_cases (under axis (first t) (second t)) (under axis (second t) (first t)) h)

  axis-lawful : Lawful (parted_on axis)
  axis-lawful =
      record {
        apart = λ t v h. (along-lawful a.way a.within).apart t v (along t h);
        halves = λ t v k h. (parted-half 0 t (omega arith) h, parted-half 1 t (omega arith) h);
      }

-- ---- the three axes
on-x : Axis (λ v. v.x)
unfolding dot
on-x = record { way = vector (pos 1) (pos 0) (pos 0); within = search arith; product = λ v. omega (arith, ints) }

on-y : Axis (λ v. v.y)
unfolding dot
on-y = record { way = vector (pos 0) (pos 1) (pos 0); within = search arith; product = λ v. omega (arith, ints) }

pub on-z : Axis (λ v. v.z)
unfolding dot
on-z = record { way = vector (pos 0) (pos 0) (pos 1); within = search arith; product = λ v. omega (arith, ints) }

pub box-lawful : Lawful box_set
box-lawful = row-lawful (row-lawful (axis-lawful on-x) (axis-lawful on-y)) (axis-lawful on-z)

-- they are the first three of Slab's directions
pub box-in-slab : IsPartOf box_set slab_set
unfolding on-x on-y on-z
box-in-slab t h =
    ⊎_elim (λ e. ⊎_elim (λ f. here 0 (omega arith) (along on-x t f)) (λ f. here 1 (omega arith) (along on-y t f)) (or_cases _ _ e)) (λ f. here 2 (omega arith) (along on-z t f)) (or_cases _ _ h)
  where
    here : (k : ℕ) → k < 13 → parted_along t (get_or directions k origin) ≡ true → slab_set t ≡ true
    here k = list_any_at (parted_along t) directions k origin

-- so before Slab it strikes nothing more
pub without_box : delivered ≡ with_box
without_box = λ i. λ t. same (box_set t) (slab_set t) (plane_set t) (box-in-slab t) i
  where
    same : (b s p : Bool) → (b ≡ true → s ≡ true) → (s || p) ≡ ((b || s) || p)
    same true s p h = ap (λ c. c || p) (h refl)
    same false s p h = refl
