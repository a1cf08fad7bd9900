-- The points of a test reach as far as the finest grid lets them; a shape equal to a test's is one.
use Rattle.std.proofs.Common.{◌≡◌, ℕ, ◌^◌, ◌≤◌, sym, subst, pow_mono}
use Rattle.motion.specs.declared.shapes.Kind.{Kind}
use Rattle.motion.specs.declared.shapes.Moving.{Moving}
use Rattle.motion.specs.Laws.{Valid}

pub power_bound : (k : ℕ) → k ≤ 6 → 2 ^ k ≤ 64
power_bound k h = pow_mono h

pub same-valid : (k : Kind) (n : ℕ) {p a b c p' a' b' c' : Moving} → p' ≡ p → a' ≡ a → b' ≡ b → c' ≡ c
    → Valid (record { kind = k; p = p; a = a; b = b; c = c; scale = n }) → Valid (record { kind = k; p = p'; a = a'; b = b'; c = c'; scale = n })
same-valid k n ep ea eb ec v = subst Valid (λ i. record { kind = k; p = sym ep i; a = sym ea i; b = sym eb i; c = sym ec i; scale = n }) v
