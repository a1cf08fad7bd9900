-- A subinterval of a half is a subinterval of the whole; a subinterval of a test within its bounds
-- is within its own.
use Rattle.std.proofs.Common.{◌≡◌, ℕ, suc, ◌+◌, ◌*◌, ◌^◌, ◌<◌, ◌≤◌, ap, ◌∙◌, add_assoc, arith}
use Rattle.std.proofs.lemmas.Nat.{pow-add}
use borrow.Author.Differences.{ints}
use Rattle.motion.specs.declared.shapes.Moving.{Moving}
use Rattle.motion.specs.declared.shapes.Shape.{Shape}
use Rattle.motion.specs.Vectors.{◌+ᵛ◌, ◌·ᵛ◌}
use Rattle.motion.specs.Laws.{Valid, Within, InReach, at, after, portion, with_points, subinterval, half}
use Rattle.motion.proofs.Integers.{scales}
use Rattle.motion.proofs.Products.{same}
use Rattle.motion.proofs.Positions.{within-at}

-- ---- a subinterval of a half
nested-at : (m : Moving) (H i j : ℕ) → at (i * H + j) (2 * H) m ≡ at j H (record { start = at i 2 m; end = at (i + 1) 2 m })
unfolding at ◌+ᵛ◌ ◌·ᵛ◌
nested-at m H i j = same (simp scales (omega (arith, ints)))

nested-after : (m : Moving) (d i j : ℕ) → after (suc d) (i * 2 ^ d + j) m ≡ after d j (portion 1 i m)
unfolding after
nested-after m d i j = let double : 2 ^ suc d ≡ 2 * 2 ^ d = omega arith in ap (λ (q : ℕ). at (i * 2 ^ d + j) q m) double ∙ nested-at m (2 ^ d) i j

nested-portion : (m : Moving) (d i j : ℕ) → portion (suc d) (i * 2 ^ d + j) m ≡ portion d j (portion 1 i m)
nested-portion m d i j =
    λ n. record {
      start = nested-after m d i j n;
      end = (ap (λ (k : ℕ). after (suc d) k m) (add_assoc (i * 2 ^ d) j 1) ∙ nested-after m d i (j + 1)) n;
    }

pub nested-subinterval : (t : Shape) (d i j : ℕ) → subinterval (suc d) (i * 2 ^ d + j) t ≡ subinterval d j (half i t)
nested-subinterval t d i j =
    let finer : t.scale + suc d ≡ t.scale + 1 + d = omega arith in λ n. with_points (λ m. nested-portion m d i j n) (finer n) t

pub twice : (d : ℕ) → 2 ^ suc d ≡ 2 ^ d + 2 ^ d
twice d = omega arith

-- the first 2^d subintervals are those of the first half, the others those of the last
pub in-first : (t : Shape) (d j : ℕ) → subinterval (suc d) j t ≡ subinterval d j (half 0 t)
in-first t d j = let same : j ≡ 0 * 2 ^ d + j = omega arith in ap (λ k. subinterval (suc d) k t) same ∙ nested-subinterval t d 0 j

pub in-last : (t : Shape) (d j : ℕ) → subinterval (suc d) (2 ^ d + j) t ≡ subinterval d j (half 1 t)
in-last t d j = let same : 2 ^ d + j ≡ 1 * 2 ^ d + j = omega arith in ap (λ k. subinterval (suc d) k t) same ∙ nested-subinterval t d 1 j

-- ---- the whole is its only subinterval of depth 0
whole-portion : (m : Moving) → portion 0 0 m ≡ m
unfolding after at ◌+ᵛ◌ ◌·ᵛ◌
whole-portion m =
    let start : at 0 1 m ≡ m.start = same (omega (arith, ints)) in
    let end : at 1 1 m ≡ m.end = same (omega (arith, ints)) in λ n. record { start = start n; end = end n }

pub whole : (t : Shape) → subinterval 0 0 t ≡ t
whole t = let same : t.scale + 0 ≡ t.scale = omega arith in λ n. with_points (λ m. whole-portion m n) (same n) t

-- ---- bounds
reach-after : (k h j : ℕ) → j ≤ 2 ^ h → (m : Moving) → InReach k m → Within (4096 * 2 ^ (k + h)) (after h j m)
unfolding after
reach-after k h j le m r =
    let finer : 4096 * 2 ^ k * 2 ^ h ≡ 4096 * 2 ^ (k + h) = omega (arith, pow-add 2 k h) in
    rw finer at (within-at (4096 * 2 ^ k) j (2 ^ h) m le r.0 r.1)

pub valid-subinterval : (t : Shape) → Valid t → (h j : ℕ) → t.scale + h ≤ 6 → j < 2 ^ h → Valid (subinterval h j t)
valid-subinterval t (_, p, a, b, c) h j room lt = (room, reach t.p p, reach t.a a, reach t.b b, reach t.c c)
  where
    reach : (m : Moving) → InReach t.scale m → InReach (t.scale + h) (portion h j m)
    reach m r = (reach-after t.scale h j (omega arith) m r, reach-after t.scale h (j + 1) (omega arith) m r)

pub valid-first : (t : Shape) → Valid t → t.scale ≤ 5 → Valid (half 0 t)
valid-first t v h = valid-subinterval t v 1 0 (omega arith) (omega arith)

pub valid-last : (t : Shape) → Valid t → t.scale ≤ 5 → Valid (half 1 t)
valid-last t v h = valid-subinterval t v 1 1 (omega arith) (omega arith)
