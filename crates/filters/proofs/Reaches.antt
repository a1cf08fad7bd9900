-- How far a sum, a difference and a product of vectors reach.
use Rattle.std.proofs.Common.{◌≡◌, ℕ, ◌+◌, ◌*◌, ◌^◌, ◌≤◌, T, leb, sym, subst, arith, leb→le, pow_mono}
use Rattle.motion.specs.declared.shapes.V3.{V3}
use Rattle.motion.specs.Vectors.{◌+ᵛ◌, ◌-ᵛ◌, dot, cross}
use Rattle.motion.specs.Laws.{Within}
use Rattle.filters.specs.inner.Bounds.{Bounded, Reach}
use Rattle.filters.proofs.Exact.{near-add, near-sub, near-mul}

pub wider : {m n : ℕ} {u : V3} → Reach m u → T (leb m n) → Reach n u
wider {m} {n} p t = let h : m ≤ n = leb→le m n t in record { x = record { size = omega arith }; y = record { size = omega arith }; z = record { size = omega arith } }

pub plus-reach : {m n : ℕ} {u v : V3} → Reach m u → Reach n v → Reach (m + n) (u +ᵛ v)
unfolding ◌+ᵛ◌
plus-reach p q = record { x = near-add p.x q.x; y = near-add p.y q.y; z = near-add p.z q.z }

pub minus-reach : {m n : ℕ} {u v : V3} → Reach m u → Reach n v → Reach (m + n) (u -ᵛ v)
unfolding ◌-ᵛ◌
minus-reach p q = record { x = near-sub p.x q.x; y = near-sub p.y q.y; z = near-sub p.z q.z }

pub cross-reach : {m n : ℕ} {u v : V3} → Reach m u → Reach n v → Reach (m * n + m * n) (cross u v)
unfolding cross
cross-reach p q = record { x = near-sub (near-mul p.y q.z) (near-mul p.z q.y); y = near-sub (near-mul p.z q.x) (near-mul p.x q.z); z = near-sub (near-mul p.x q.y) (near-mul p.y q.x) }

pub dot-near : {m n : ℕ} {u v : V3} → Reach m u → Reach n v → Bounded (m * n + m * n + m * n) (dot u v)
unfolding dot
dot-near p q = near-add (near-add (near-mul p.x q.x) (near-mul p.y q.y)) (near-mul p.z q.z)

-- a point of a test
pub in-reach : (k : ℕ) (v : V3) → k ≤ 6 → Within (4096 * 2 ^ k) v → Reach (2 ^ 18) v
in-reach k v h (x, y, z) = let p : 2 ^ k ≤ 2 ^ 6 = pow_mono h in record { x = record { size = omega arith }; y = record { size = omega arith }; z = record { size = omega arith } }

-- what a call returned reaches as far as what its contract says it is
pub reached : {m n : ℕ} {u r : V3} → r ≡ u → Reach m u → T (leb m n) → Reach n r
reached {m} {n} {u} e p t = subst (λ (w : V3). Reach n w) (sym e) (wider p t)

pub same-reach : {m : ℕ} {u r : V3} → r ≡ u → Reach m u → Reach m r
same-reach {m} e p = subst (λ (w : V3). Reach m w) (sym e) p
