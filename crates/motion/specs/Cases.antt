-- Seven tests worked out by hand, as one statement about the rules.
use Rattle.std.specs.Prelude.{◌≡◌, ℕ, Bool, true, false, Some, List, [], ◌∷◌, ℤ, pos, neg_ℤ, IsTrue}
use Rattle.motion.specs.declared.shapes.V3.{V3}
use Rattle.motion.specs.declared.shapes.Kind.TheVariants.{Vf, Ee}
use Rattle.motion.specs.declared.shapes.Moving.{Moving}
use Rattle.motion.specs.declared.shapes.Shape.{Shape}
use Rattle.motion.specs.declared.shapes.Controls.{Controls}
use Rattle.motion.specs.Vectors.{vector, origin}
use Rattle.motion.specs.Laws.{Apart, half}
use Rattle.motion.specs.Box.{box_set}
use Rattle.motion.specs.Slab.{slab_set}
use Rattle.motion.specs.Plane.{controls, plane_set}
use Rattle.motion.specs.Rows.{delivered}
use Rattle.motion.specs.Depths.{struck_at, IsWindow, window_at}

-- n below zero
abbrev negative : ℕ → ℤ
negative n = neg_ℤ (pos n)

-- a position with no coordinate below zero
abbrev position : ℕ → ℕ → ℕ → V3
position x y z = vector (pos x) (pos y) (pos z)

infix 5 ◌to◌
abbrev ◌to◌ : V3 → V3 → Moving
u to v = record { start = u; end = v }

abbrev resting : V3 → Moving
resting v = v to v

abbrev vf : Moving → Moving → Moving → Moving → Shape
vf p a b c = record { kind = Vf; p = p; a = a; b = b; c = c; scale = 0 }

abbrev ee : Moving → Moving → Moving → Moving → Shape
ee u v k l = record { kind = Ee; p = l; a = k; b = u; c = v; scale = 0 }

abbrev pub values : ℤ → ℤ → ℤ → ℤ → Controls
values a b c d = record { g0 = a; g1 = b; g2 = c; g3 = d }

-- against the resting face (0,0,0), (4,0,0), (0,4,0)
abbrev over_t : Moving → Shape
over_t p = vf p (resting origin) (resting (position 4 0 0)) (resting (position 0 4 0))

-- the point (1,1,1), which goes to (1,1,z)
abbrev at_height : ℤ → Moving
at_height z = position 1 1 1 to vector (pos 1) (pos 1) z

abbrev pub leaving : Shape
leaving = over_t (at_height (pos 3))

abbrev pub crossing : Shape
crossing = over_t (at_height (negative 1))

abbrev pub landing : Shape
landing = over_t (at_height (pos 0))

abbrev pub beside : Shape
beside = over_t (resting (position 9 9 0))

-- the face rises by ten, and the point with it
abbrev pub rising : Shape
rising =
    vf (at_height (pos 11)) (origin to position 0 0 10)
    (position 4 0 0 to position 4 0 10) (position 0 4 0 to position 0 4 10)

abbrev pub turning : Shape
turning =
    vf (position 2 0 2 to vector (negative 2) (pos 0) (pos 0)) (resting origin)
    (position 1 0 0 to position 0 0 1) (resting (position 0 1 0))

-- two edges, one of which sinks through the other
abbrev pub sinking : Shape
sinking =
    ee (resting (vector (negative 2) (pos 0) (pos 0))) (resting (position 2 0 0))
    (vector (pos 0) (negative 2) (pos 1) to vector (pos 0) (negative 2) (negative 1))
    (position 0 2 1 to vector (pos 0) (pos 2) (negative 1))

-- the seven of them
abbrev pub worked_tests : List Shape
worked_tests =
    leaving ∷ crossing ∷ landing ∷ beside ∷ rising ∷ turning ∷ sinking ∷ []

-- a test's control values, and what Box, Slab and Plane answer
abbrev Answers : Shape → Controls → Bool → Bool → Bool → Type 0
Answers t g b s p = (controls t ≡ g) × (box_set t ≡ b) × (slab_set t ≡ s) × (plane_set t ≡ p)

-- the window of the one that crosses
abbrev CrossingWindow : ℕ → ℕ → ℕ → Type 0
CrossingWindow d i j = IsWindow delivered d crossing i j × (window_at delivered d crossing ≡ Some (i, j))

pub record Cases : Type 0 where
  pub leaving_answers : Answers leaving (values (pos 48) (pos 80) (pos 112) (pos 144)) true true true
  pub crossing_answers : Answers crossing (values (pos 48) (pos 16) (negative 16) (negative 48)) false false false
  pub crossing_window_0 : CrossingWindow 0 0 0
  pub crossing_window_1 : CrossingWindow 1 0 1
  pub crossing_window_2 : CrossingWindow 2 1 2
  pub crossing_window_6 : CrossingWindow 6 31 32
  pub crossing_touches : ¬ Apart crossing
  pub landing_answers : Answers landing (values (pos 48) (pos 32) (pos 16) (pos 0)) false false false
  pub beside_answers : Answers beside (values (pos 0) (pos 0) (pos 0) (pos 0)) true true false
  pub rising_answers : Answers rising (values (pos 48) (pos 48) (pos 48) (pos 48)) false true true
  pub turning_answers : Answers turning (values (pos 6) (pos 0) (pos 0) (pos 6)) false false false
  pub turning_first_half : controls (half 0 turning) ≡ values (pos 48) (pos 24) (pos 12) (pos 12)
  pub turning_last_half : controls (half 1 turning) ≡ values (pos 12) (pos 12) (pos 24) (pos 48)
  pub turning_deeper : IsTrue (struck_at delivered 1 turning)
  pub sinking_answers : Answers sinking (values (negative 48) (negative 16) (pos 16) (pos 48)) false false false
