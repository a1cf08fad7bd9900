-- The value that signed code computes is the whole number it stands for, as long as that number is
-- small enough. `Exact B z raw`: the code's term `raw` is z, and z is no further from zero than B.
-- One rule for each operation.
use Rattle.std.proofs.Common.{◌≡◌, ℕ, ◌+◌, ◌*◌, ◌^◌, ◌<◌, T, ltb, ℤ, pos, ◌+ℤ◌, ◌-ℤ◌, ◌*ℤ◌, refl, ◌∙◌, mul-le-mul, arith, ltb→lt, to_z-of_z, SFits, to_z, of_z, w64}
use borrow.Author.Differences.{ints}
use Rattle.std.proofs.lemmas.Int.{unsigned_abs-mul}
use Rattle.filters.specs.inner.Bounds.{Bounded}

pub near-mul : {a b : ℤ} {m n : ℕ} → Bounded m a → Bounded n b → Bounded (m * n) (a *ℤ b)
near-mul {a} {b} p q = record { size = rw (unsigned_abs-mul a b) (mul-le-mul p.size q.size) }

pub near-add : {a b : ℤ} {m n : ℕ} → Bounded m a → Bounded n b → Bounded (m + n) (a +ℤ b)
near-add p q = record { size = omega (arith, ints) }

pub near-sub : {a b : ℤ} {m n : ℕ} → Bounded m a → Bounded n b → Bounded (m + n) (a -ℤ b)
near-sub p q = record { size = omega (arith, ints) }

pub record Exact (B : ℕ) (z raw : ℤ) : Type 0 where
  pub same : raw ≡ z
  pub near : Bounded B z

pub fits : {B : ℕ} {z raw : ℤ} → Exact B z raw → T (ltb B (2 ^ 63)) → SFits w64 raw
fits {B} e t = let h : B < 2 ^ 63 = ltb→lt B (2 ^ 63) t in omega (arith, ints)

-- as it is stored
pub stored : {B : ℕ} {z raw : ℤ} → Exact B z raw → T (ltb B (2 ^ 63)) → Exact B z (to_z w64 (of_z w64 raw))
stored e t = record { same = to_z-of_z (fits e t) ∙ e.same; near = e.near }

-- an argument, and what a call returned
pub value : {B : ℕ} {z : ℤ} → Bounded B z → T (ltb B (2 ^ 63)) → Exact B z (to_z w64 (of_z w64 z))
value p t = stored (record { same = refl; near = p }) t

pub called : {B : ℕ} {z raw : ℤ} → raw ≡ z → Bounded B z → T (ltb B (2 ^ 63)) → Exact B z (to_z w64 (of_z w64 raw))
called e p t = stored (record { same = e; near = p }) t

pub literal : (n : ℕ) → Exact n (pos n) (pos n)
literal n = record { same = refl; near = record { size = omega arith } }

module _ {m n : ℕ} {x y a b : ℤ} (e : Exact m x a) (f : Exact n y b) where
  pub times : Exact (m * n) (x *ℤ y) (a *ℤ b)
  times = record { same = λ i. e.same i *ℤ f.same i; near = near-mul e.near f.near }

  pub plus : Exact (m + n) (x +ℤ y) (a +ℤ b)
  plus = record { same = λ i. e.same i +ℤ f.same i; near = near-add e.near f.near }

  pub less : Exact (m + n) (x -ℤ y) (a -ℤ b)
  less = record { same = λ i. e.same i -ℤ f.same i; near = near-sub e.near f.near }

-- the product of two arguments, as it is stored
pub product : {m n : ℕ} {a b : ℤ} → Bounded m a → Bounded n b → T (ltb m (2 ^ 63)) → T (ltb n (2 ^ 63)) → T (ltb (m * n) (2 ^ 63))
    → Exact (m * n) (a *ℤ b) (to_z w64 (of_z w64 (to_z w64 (of_z w64 a) *ℤ to_z w64 (of_z w64 b))))
product p q s t u = stored (times (value p s) (value q t)) u
