-- Where a moving point is on its way: p of q parts are past, q − p are left.
use Rattle.std.proofs.Common.{◌≡◌, ℕ, ◌+◌, ◌-◌, ◌*◌, ◌≤◌, ℤ, pos, ◌+ℤ◌, ◌-ℤ◌, ◌*ℤ◌, nat_abs, ap, mul-le-mul_left, arith}
use borrow.Author.Differences.{ints}
use Rattle.std.proofs.lemmas.Int.{unsigned_abs-mul}
use Rattle.motion.specs.declared.shapes.V3.{V3}
use Rattle.motion.specs.declared.shapes.Moving.{Moving}
use Rattle.motion.specs.Vectors.{◌+ᵛ◌, ◌-ᵛ◌, ◌·ᵛ◌}
use Rattle.motion.specs.Laws.{Within, at}
use Rattle.motion.proofs.Integers.{*-distl, *-neg, sums}
use Rattle.motion.proofs.Products.{same}
use Rattle.motion.proofs.Gaps.{abs-add}

left-over : (p q : ℕ) → p ≤ q → pos q -ℤ pos p ≡ pos (q - p)
left-over p q h = omega (arith, ints)

-- one point seen from another
pub at-minus : (p q : ℕ) (m n : Moving) → p ≤ q → at p q m -ᵛ at p q n ≡ pos (q - p) ·ᵛ (m.start -ᵛ n.start) +ᵛ pos p ·ᵛ (m.end -ᵛ n.end)
unfolding at ◌+ᵛ◌ ◌-ᵛ◌ ◌·ᵛ◌
at-minus p q m n h = simp (left-over p q h) (same (simp (*-distl, *-neg) (omega (arith, sums))))

-- ---- sizes
between : (B r p q : ℕ) (s e : ℤ) → r + p ≡ q → nat_abs s ≤ B → nat_abs e ≤ B → nat_abs (pos r *ℤ s +ℤ pos p *ℤ e) ≤ B * q
between B r p q s e h hs he =
    omega (arith, ap (λ (n : ℕ). B * n) h, abs-add (pos r *ℤ s) (pos p *ℤ e), unsigned_abs-mul (pos r) s, unsigned_abs-mul (pos p) e, mul-le-mul_left r hs, mul-le-mul_left p he)

pub within-at : (B p q : ℕ) (m : Moving) → p ≤ q → Within B m.start → Within B m.end → Within (B * q) (at p q m)
unfolding at ◌+ᵛ◌ ◌·ᵛ◌
within-at B p q m h s e =
    let c : q - p + p ≡ q = omega arith in
    simp (left-over p q h) (between B (q - p) p q _ _ c s.0 e.0, between B (q - p) p q _ _ c s.1 e.1, between B (q - p) p q _ _ c s.2 e.2)

pub within-minus : (B : ℕ) (u v : V3) → Within B u → Within B v → Within (2 * B) (u -ᵛ v)
unfolding ◌-ᵛ◌
within-minus B u v f g = omega (arith, ints)
