-- The gap that a large product with a short vector gives on some axis.
use Rattle.std.proofs.Common.{◌≡◌, ℕ, ◌+◌, ◌*◌, ◌^◌, ◌<◌, ◌≤◌, ℤ, ◌+ℤ◌, ◌-ℤ◌, ◌*ℤ◌, nat_abs, mul-le-mul_left, mul-le-mul_right, mul-le-mul, arith}
use native.Mathlib.Decide.{dec_le}
use borrow.Author.Differences.{ints}
use Rattle.std.proofs.lemmas.Int.{unsigned_abs-mul}
use Rattle.motion.specs.declared.shapes.V3.{V3}
use Rattle.motion.specs.Vectors.{◌·ᵛ◌, dot, cross}
use Rattle.motion.specs.Laws.{Within, FarBy, on-x, on-y, on-z, gap}

abbrev pub size : V3 → ℕ
size v = nat_abs v.x + nat_abs v.y + nat_abs v.z

pub size-times : (k : ℤ) (v : V3) → size (k ·ᵛ v) ≡ nat_abs k * size v
unfolding ◌·ᵛ◌
size-times k v = simp unsigned_abs-mul (omega arith)

pub abs-add : (a b : ℤ) → nat_abs (a +ℤ b) ≤ nat_abs a + nat_abs b
abs-add a b = omega (arith, ints)

abs-sub : (a b : ℤ) → nat_abs (a -ℤ b) ≤ nat_abs a + nat_abs b
abs-sub a b = omega (arith, ints)

-- a component of a cross product
minor : (B : ℕ) (a b c d : ℤ) → nat_abs a ≤ B → nat_abs b ≤ B → nat_abs c ≤ B → nat_abs d ≤ B → nat_abs (a *ℤ b -ℤ c *ℤ d) ≤ 2 * (B * B)
minor B a b c d ha hb hc hd =
    omega (arith, abs-sub (a *ℤ b) (c *ℤ d), unsigned_abs-mul a b, unsigned_abs-mul c d, mul-le-mul ha hb, mul-le-mul hc hd)

pub cross-small : (B : ℕ) (a b : V3) → Within B a → Within B b → size (cross a b) ≤ 6 * (B * B)
unfolding cross
cross-small B a b f g =
    omega (
      arith,
      minor B a.y b.z a.z b.y f.1 g.2 f.2 g.1,
      minor B a.z b.x a.x b.z f.2 g.0 f.0 g.2,
      minor B a.x b.y a.y b.x f.0 g.1 f.1 g.0,
    )

dot-small : (a b : V3) → nat_abs (dot a b) ≤ nat_abs a.x * nat_abs b.x + nat_abs a.y * nat_abs b.y + nat_abs a.z * nat_abs b.z
unfolding dot
dot-small a b =
    omega (
      arith,
      abs-add (a.x *ℤ b.x +ℤ a.y *ℤ b.y) (a.z *ℤ b.z),
      abs-add (a.x *ℤ b.x) (a.y *ℤ b.y),
      unsigned_abs-mul a.x b.x,
      unsigned_abs-mul a.y b.y,
      unsigned_abs-mul a.z b.z,
    )

-- not all three axes are near
too-near : (M L N a b c x y z s : ℕ) → a + b + c ≤ L → N ≤ s → s ≤ a * x + b * y + c * z → L * M < N * 2 ^ 49
    → x * 2 ^ 49 ≤ M → y * 2 ^ 49 ≤ M → z * 2 ^ 49 ≤ M → ⊥
too-near M L N a b c x y z s hl hn hs room hx hy hz =
    omega (arith, mul-le-mul_left a hx, mul-le-mul_left b hy, mul-le-mul_left c hz, mul-le-mul_right M hl)

-- v is n times a difference, and its product with d at least N
pub far-by : (k n L N : ℕ) (d v : V3) → size d ≤ L → N ≤ nat_abs (dot d v) → L * (2 ^ k * n) < N * 2 ^ 49 → FarBy gap k n v
far-by k n L N d v short long room = go (dec_le M (nat_abs v.x * 2 ^ 49)) (dec_le M (nat_abs v.y * 2 ^ 49)) (dec_le M (nat_abs v.z * 2 ^ 49))
  where
    M : ℕ
    M = gap * 2 ^ k * n

    go : Dec (M ≤ nat_abs v.x * 2 ^ 49) → Dec (M ≤ nat_abs v.y * 2 ^ 49) → Dec (M ≤ nat_abs v.z * 2 ^ 49) → FarBy gap k n v
    go (yes h) d e = on-x h
    go (no f) (yes h) e = on-y h
    go (no f) (no e) (yes h) = on-z h
    go (no f) (no g) (no h) =
        absurd
        (too-near M L N (nat_abs d.x) (nat_abs d.y) (nat_abs d.z) (nat_abs v.x) (nat_abs v.y) (nat_abs v.z) (nat_abs (dot d v)) short long (dot-small d v) (omega arith) (omega arith) (omega arith) (omega arith))
