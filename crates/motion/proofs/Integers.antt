-- The laws of a commutative ring that lib.IntN does not state. `omega` is linear in monomials, so a
-- fact about a sum that is itself a factor is handed over multiplied by the other factor.
use Rattle.std.proofs.Common.{◌≡◌, ℕ, ◌+◌, ◌*◌, ℤ, pos, ◌+ℤ◌, ◌*ℤ◌, neg_ℤ, ap, ◌∙◌, ◌≤◌, ◌≤ℤ◌, mul-le-mul_left, arith}
use lib.IntN.{*ℤ_comm, +ℤ_invl}
use borrow.Author.Differences.{up, down, same_in, same_out, sum_is_lem, neg_is, product_is, ints}

up-product : (a b : ℤ) → up (a *ℤ b) ≡ up a * up b + down a * down b
up-product a b = (product_is a b).0

down-product : (a b : ℤ) → down (a *ℤ b) ≡ up a * down b + down a * up b
down-product a b = (product_is a b).1

module _ (a b c : ℤ) where
  pub *-assoc : (a *ℤ b) *ℤ c ≡ a *ℤ (b *ℤ c)
  *-assoc = same_in _ _ (simp (up-product, down-product) (omega arith))

  pub *-left-comm : a *ℤ (b *ℤ c) ≡ b *ℤ (a *ℤ c)
  *-left-comm = same_in _ _ (simp (up-product, down-product) (omega arith))

  pub *-distr : (a +ℤ b) *ℤ c ≡ a *ℤ c +ℤ b *ℤ c
  *-distr = omega (arith, ints, ap (λ (n : ℕ). n * up c) (sum_is_lem a b), ap (λ (n : ℕ). n * down c) (sum_is_lem a b))

pub *-distl : (a b c : ℤ) → a *ℤ (b +ℤ c) ≡ a *ℤ b +ℤ a *ℤ c
*-distl a b c = *ℤ_comm a (b +ℤ c) ∙ *-distr b c a ∙ (λ i. *ℤ_comm b a i +ℤ *ℤ_comm c a i)

pub neg-* : (a b : ℤ) → neg_ℤ a *ℤ b ≡ neg_ℤ (a *ℤ b)
neg-* a b = omega (arith, ints, *-distr (neg_ℤ a) a b, ap (λ (z : ℤ). z *ℤ b) (+ℤ_invl a))

pub *-neg : (a b : ℤ) → a *ℤ neg_ℤ b ≡ neg_ℤ (a *ℤ b)
*-neg a b = *ℤ_comm a (neg_ℤ b) ∙ neg-* b a ∙ ap neg_ℤ (*ℤ_comm b a)

-- for `simp`: a term is multiplied out, the factors of each monomial sorted
pub ruleset products = (*-distr, *-distl, neg-*, *-neg, *-assoc, *-left-comm, *ℤ_comm)

-- the same where all factors but the last are naturals, which are multiplied
pub ruleset scales = (*-distr, *-distl, neg-*, *-neg, ← *-assoc)

-- for `omega`: sums of monomials, each an unknown
pub ruleset sums = (same_in, same_out, sum_is_lem, neg_is)

-- ---- a number of times
pub times-ge : (w n : ℕ) (x : ℤ) → pos n ≤ℤ x → pos (w * n) ≤ℤ (pos w *ℤ x)
times-ge w n x h = let k : n + down x ≤ up x = omega (arith, ints) in omega (arith, ints, mul-le-mul_left w k)
