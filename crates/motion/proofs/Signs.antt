-- A sign: a test of numbers that only passes those above zero, or only those below, and the factor
-- 1 or −1 that makes them positive.
use Rattle.std.proofs.Common.{◌≡◌, Bool, true, ℤ, pos, negsuc, ◌+ℤ◌, ◌*ℤ◌, nat_abs, ◌≤ℤ◌, refl, arith}
use lib.Signed.{lt_z}
use borrow.Author.Differences.{ints}

pub record Sign (f : ℤ → Bool) (k : ℤ) : Type 0 where
  pub unit : nat_abs k ≡ 1
  pub tells : (z : ℤ) → f z ≡ true → pos 1 ≤ℤ (k *ℤ z)
  pub adds : (y z : ℤ) → f y ≡ true → f z ≡ true → f (y +ℤ z) ≡ true

pub positive : Sign (λ z. lt_z (pos 0) z) (pos 1)
positive = record { unit = refl; tells = λ z h. omega (arith, ints); adds = λ y z h k. grind (arith, ints) }

pub negative : Sign (λ z. lt_z z (pos 0)) (negsuc 0)
negative = record { unit = refl; tells = λ z h. omega (arith, ints); adds = λ y z h k. grind (arith, ints) }
