-- The control values as determinants: those of the halves, and how they bound the determinant on
-- the way.
use Rattle.std.proofs.Common.{◌≡◌, ℕ, ◌+◌, ◌*◌, ◌^◌, Bool, true, ◌&&◌, ℤ, pos, ◌+ℤ◌, ◌*ℤ◌, ◌≤ℤ◌, pow-suc, arith}
use native.Mathlib.Nat.{pow-zero}
use borrow.Author.Differences.{ints}
use Rattle.motion.specs.declared.shapes.V3.{V3}
use Rattle.motion.specs.declared.shapes.Shape.{Shape}
use Rattle.motion.specs.declared.shapes.Controls.{Controls}
use Rattle.motion.specs.Vectors.{◌+ᵛ◌, ◌-ᵛ◌, ◌·ᵛ◌, dot, cross}
use Rattle.motion.specs.Plane.{n0, n1, d0, d1, 2n̂, controls}
use Rattle.motion.proofs.Integers.{products, sums, times-ge}
use Rattle.motion.proofs.Products.{same, linear}
use Rattle.motion.proofs.Signs.{Sign}

abbrev pub det : V3 → V3 → V3 → ℤ
det a b c = dot a (cross b c)

-- three vectors at one time
pub record Triple : Type 0 where
  pub u : V3
  pub v : V3
  pub w : V3

abbrev pub det_of : Triple → ℤ
det_of t = det t.u t.v t.w

-- the control values of the cubic det (u(t)) (v(t)) (w(t)), times 3, between the start s and the end e
abbrev pub values : Triple → Triple → Controls
values s e =
    record {
      g0 = pos 3 *ℤ det_of s;
      g1 = det s.u e.v s.w +ℤ det s.u s.v e.w +ℤ det e.u s.v s.w;
      g2 = det e.u e.v s.w +ℤ det e.u s.v e.w +ℤ det s.u e.v e.w;
      g3 = pos 3 *ℤ det_of e;
    }

pub same-controls : {g h : Controls} → (g.g0 ≡ h.g0) × (g.g1 ≡ h.g1) × (g.g2 ≡ h.g2) × (g.g3 ≡ h.g3) → g ≡ h
same-controls e = λ i. record { g0 = e.0 i; g1 = e.1 i; g2 = e.2 i; g3 = e.3 i }

-- ---- between two times
abbrev pub sum : Triple → Triple → Triple
sum s e = record { u = s.u +ᵛ e.u; v = s.v +ᵛ e.v; w = s.w +ᵛ e.w }

-- the position after p of r + p parts, times r + p
abbrev pub along : ℤ → ℤ → Triple → Triple → Triple
along r p s e = record { u = r ·ᵛ s.u +ᵛ p ·ᵛ e.u; v = r ·ᵛ s.v +ᵛ p ·ᵛ e.v; w = r ·ᵛ s.w +ᵛ p ·ᵛ e.w }

-- ---- a test, its points seen from a
abbrev pub seen : V3 → V3 → V3 → V3 → Triple
seen p a b c = record { u = p -ᵛ a; v = b -ᵛ a; w = c -ᵛ a }

abbrev pub at_start : Shape → Triple
at_start t = seen t.p.start t.a.start t.b.start t.c.start

abbrev pub at_end : Shape → Triple
at_end t = seen t.p.end t.a.end t.b.end t.c.end

regroup : (a b c d : V3) → (a -ᵛ b) -ᵛ (c -ᵛ d) ≡ (a -ᵛ c) -ᵛ (b -ᵛ d)
unfolding ◌-ᵛ◌
regroup a b c d = same (omega (arith, ints))

module _ (t : Shape) where
  -- the normal between has the mixed determinants alone
  between : (d : V3) → dot d (2n̂ t) ≡ det d (at_end t).v (at_start t).w +ℤ det d (at_start t).v (at_end t).w
  between d =
      rw (regroup t.b.end t.b.start t.a.end t.a.start, regroup t.c.end t.c.start t.a.end t.a.start) (simp linear (omega (arith, sums)))

  pub controls-are : controls t ≡ values (at_start t) (at_end t)
  unfolding controls
  controls-are =
      λ i. record {
        g0 = pos 3 *ℤ dot (d0 t) (n0 t);
        g1 = between (d0 t) i +ℤ dot (d1 t) (n0 t);
        g2 = between (d1 t) i +ℤ dot (d0 t) (n1 t);
        g3 = pos 3 *ℤ dot (d1 t) (n1 t);
      }

-- ---- the halves: their values are sums of those of the whole
abbrev twice : ℤ → ℤ
twice x = x +ℤ x

-- the value in the middle, times 8
abbrev middle : Controls → ℤ
middle g = (g.g0 +ℤ g.g1 +ℤ (g.g1 +ℤ g.g2)) +ℤ (g.g1 +ℤ g.g2 +ℤ (g.g2 +ℤ g.g3))

abbrev pub left : Controls → Controls
left g = record { g0 = twice (twice (twice g.g0)); g1 = twice (twice (g.g0 +ℤ g.g1)); g2 = twice (g.g0 +ℤ g.g1 +ℤ (g.g1 +ℤ g.g2)); g3 = middle g }

abbrev pub right : Controls → Controls
right g = record { g0 = middle g; g1 = twice (g.g1 +ℤ g.g2 +ℤ (g.g2 +ℤ g.g3)); g2 = twice (twice (g.g2 +ℤ g.g3)); g3 = twice (twice (twice g.g3)) }

module _ (s e : Triple) where
  pub left-is : values (sum s s) (sum s e) ≡ left (values s e)
  left-is = same-controls (simp linear (omega (arith, ints)))

  pub right-is : values (sum s e) (sum e e) ≡ right (values s e)
  right-is = same-controls (simp linear (omega (arith, ints)))

-- ---- all four of one sign
abbrev pub all : (ℤ → Bool) → Controls → Bool
all f g = f g.g0 && f g.g1 && f g.g2 && f g.g3

pub four : (a b c d : Bool) → (a && b && c && d) ≡ true → (a ≡ true) × (b ≡ true) × (c ≡ true) × (d ≡ true)
four a b c d h = grind arith

from-four : (a b c d : Bool) → a ≡ true → b ≡ true → c ≡ true → d ≡ true → (a && b && c && d) ≡ true
from-four a b c d p q r s = grind arith

pub halves-all : {f : ℤ → Bool} {k : ℤ} → Sign f k → (g : Controls) → all f g ≡ true → (all f (left g) ≡ true) × (all f (right g) ≡ true)
halves-all {f} sign g h =
    let p = four _ _ _ _ h in
    let ab = sign.adds g.g0 g.g1 p.0 p.1 in
    let bc = sign.adds g.g1 g.g2 p.1 p.2 in
    let cd = sign.adds g.g2 g.g3 p.2 p.3 in
    let abc = sign.adds _ _ ab bc in
    let bcd = sign.adds _ _ bc cd in
    let middle = sign.adds _ _ abc bcd in (
      from-four _ _ _ _ (double (double (double p.0))) (double (double ab)) (double abc) middle,
      from-four _ _ _ _ middle (double bcd) (double (double cd)) (double (double (double p.3))),
    )
  where
    double : {x : ℤ} → f x ≡ true → f (twice x) ≡ true
    double {x} p = sign.adds x x p p

-- ---- on the way: Bernstein's form of the determinant, and the bound from it
-- r is what is left of the step, p what is past
bernstein : (k r p : ℤ) (s e : Triple)
    → let g : Controls = values s e in
    k *ℤ (pos 3 *ℤ det_of (along r p s e))
    ≡ r *ℤ r *ℤ r *ℤ (k *ℤ g.g0) +ℤ pos 3 *ℤ r *ℤ r *ℤ p *ℤ (k *ℤ g.g1) +ℤ pos 3 *ℤ r *ℤ p *ℤ p *ℤ (k *ℤ g.g2) +ℤ p *ℤ p *ℤ p *ℤ (k *ℤ g.g3)
bernstein k r p s e = simp (linear, products) (omega (arith, sums))

pub cube : (q : ℕ) → q ^ 3 ≡ q * q * q
cube q = simp (pow-suc q 2, pow-suc q 1, pow-suc q 0, pow-zero q) (omega arith)

at-least : (r p : ℕ) (z a b c d : ℤ) → pos 1 ≤ℤ a → pos 1 ≤ℤ b → pos 1 ≤ℤ c → pos 1 ≤ℤ d
    → z ≡ pos (r * r * r) *ℤ a +ℤ pos (3 * r * r * p) *ℤ b +ℤ pos (3 * r * p * p) *ℤ c +ℤ pos (p * p * p) *ℤ d → pos ((r + p) ^ 3) ≤ℤ z
at-least r p z a b c d ha hb hc hd e =
    omega (arith, ints, cube (r + p), times-ge (r * r * r) 1 a ha, times-ge (3 * r * r * p) 1 b hb, times-ge (3 * r * p * p) 1 c hc, times-ge (p * p * p) 1 d hd)

pub stays : {f : ℤ → Bool} {k : ℤ} → Sign f k → (s e : Triple) → all f (values s e) ≡ true
    → (r p : ℕ) → pos ((r + p) ^ 3) ≤ℤ (k *ℤ (pos 3 *ℤ det_of (along (pos r) (pos p) s e)))
stays {f} {k} sign s e h r p =
    let a = four _ _ _ _ h in
    at-least r p _ _ _ _ _ (sign.tells _ a.0) (sign.tells _ a.1) (sign.tells _ a.2) (sign.tells _ a.3) (bernstein k (pos r) (pos p) s e)
