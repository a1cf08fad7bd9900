-- Plane: the four values of the non-coplanarity test have one sign.
use Rattle.std.specs.Prelude.{ℕ, ◌^◌, ◌≤◌, Bool, ◌&&◌, ◌||◌, ◌⊎◌, ℤ, pos, neg_ℤ, ◌+ℤ◌, ◌*ℤ◌, ◌≤ℤ◌, int_lt, IsTrue}
use Rattle.motion.specs.declared.shapes.V3.{V3}
use Rattle.motion.specs.declared.shapes.Moving.{Moving}
use Rattle.motion.specs.declared.shapes.Shape.{Shape}
use Rattle.motion.specs.declared.shapes.Controls.{Controls}
use Rattle.motion.specs.Vectors.{◌+ᵛ◌, ◌-ᵛ◌, dot, cross}
use Rattle.motion.specs.Laws.{at}

-- the move of a point
abbrev pub velocity : Moving → V3
velocity m = m.end -ᵛ m.start

-- across the triangle a, b, c
abbrev pub normal : V3 → V3 → V3 → V3
normal a b c = cross (b -ᵛ a) (c -ᵛ a)

-- the normals at the start and at the end of the step, the one of the moves,
-- and twice the one between
abbrev pub n0 : Shape → V3
n0 t = normal t.a.start t.b.start t.c.start

abbrev pub n1 : Shape → V3
n1 t = normal t.a.end t.b.end t.c.end

abbrev pub velocity_normal : Shape → V3
velocity_normal t = normal (velocity t.a) (velocity t.b) (velocity t.c)

abbrev pub 2n̂ : Shape → V3
2n̂ t = n0 t +ᵛ n1 t -ᵛ velocity_normal t

-- the point seen from the triangle
abbrev pub d0 : Shape → V3
d0 t = t.p.start -ᵛ t.a.start

abbrev pub d1 : Shape → V3
d1 t = t.p.end -ᵛ t.a.end

-- from d0, d1, n0, n1 and 2n̂:
-- A = d0·n0, B = d1·n1, 2C = d0·2n̂, 2D = d1·2n̂, E = d0·n1, F = d1·n0; G is 3A, 2C + F, 2D + E, 3B
abbrev pub combined : V3 → V3 → V3 → V3 → V3 → Controls
combined d0 d1 n0 n1 2n̂ =
    record {
      g0 = pos 3 *ℤ dot d0 n0;
      g1 = dot d0 2n̂ +ℤ dot d1 n0;
      g2 = dot d1 2n̂ +ℤ dot d0 n1;
      g3 = pos 3 *ℤ dot d1 n1;
    }

unfoldable pub controls : Shape → Controls
controls t = combined (d0 t) (d1 t) (n0 t) (n1 t) (2n̂ t)

-- a zero agrees with nothing
abbrev pub all_above : Controls → Bool
all_above g =
    int_lt (pos 0) g.g0 && int_lt (pos 0) g.g1 && int_lt (pos 0) g.g2 && int_lt (pos 0) g.g3

abbrev pub all_below : Controls → Bool
all_below g =
    int_lt g.g0 (pos 0) && int_lt g.g1 (pos 0) && int_lt g.g2 (pos 0) && int_lt g.g3 (pos 0)

abbrev pub one_sign : Controls → Bool
one_sign g = all_above g || all_below g

abbrev pub plane_set : Shape → Bool
plane_set t = one_sign (controls t)

-- six times the volume of the four points at the fraction p/q of the step, times q^3
abbrev pub volume_at : ℕ → ℕ → Shape → ℤ
volume_at p q t =
    dot (at p q t.p -ᵛ at p q t.a) (normal (at p q t.a) (at p q t.b) (at p q t.c))

-- at every fraction of the step six times the volume is at least 1/3, or at most −1/3;
-- it changes continuously, so it is so at every moment, and the four points are never in one plane
abbrev pub StaysAbove : Shape → Type 0
StaysAbove t = (p q : ℕ) → p ≤ q → pos (q ^ 3) ≤ℤ (pos 3 *ℤ volume_at p q t)

abbrev pub StaysBelow : Shape → Type 0
StaysBelow t = (p q : ℕ) → p ≤ q → (pos 3 *ℤ volume_at p q t) ≤ℤ neg_ℤ (pos (q ^ 3))

-- the non-coplanarity theorem: the point keeps to its side of the plane of the other three
abbrev pub NeverCoplanar : Type 0
NeverCoplanar = (t : Shape) → IsTrue (plane_set t) → StaysAbove t ⊎ StaysBelow t
