-- What a filter owes: the tests of its set stay apart, and so it has the halves of each.
use Rattle.std.specs.Prelude.{◌≡◌, ℕ, ◌+◌, ◌*◌, ◌^◌, ◌≤◌, Bool, IsTrue, List, [], ◌∷◌, map, length, pos, ◌-ℤ◌, unsigned_abs}
use Rattle.motion.specs.declared.shapes.V3.{V3}
use Rattle.motion.specs.declared.shapes.Moving.{Moving}
use Rattle.motion.specs.declared.shapes.Shape.{Shape}
use Rattle.motion.specs.Vectors.{◌+ᵛ◌, ◌-ᵛ◌, ◌·ᵛ◌, origin}
use Rattle.motion.specs.Features.{first, second}

-- ---- tests within their bounds: a scale of at most 6,
-- and no coordinate further from zero than 4,096·2^scale
abbrev pub Within : ℕ → V3 → Type 0
Within B v = (unsigned_abs v.x ≤ B) × (unsigned_abs v.y ≤ B) × (unsigned_abs v.z ≤ B)

abbrev pub InReach : ℕ → Moving → Type 0
InReach k m = Within (4096 * 2 ^ k) m.start × Within (4096 * 2 ^ k) m.end

abbrev pub Valid : Shape → Type 0
Valid t =
    (t.scale ≤ 6)
    × InReach t.scale t.p × InReach t.scale t.a × InReach t.scale t.b × InReach t.scale t.c

-- ---- apart
-- where a moving point is at the fraction p/q of the step, times q
unfoldable pub at : ℕ → ℕ → Moving → V3
at p q m = (pos q -ℤ pos p) ·ᵛ m.start +ᵛ pos p ·ᵛ m.end

-- the mean of points with whole weights, times the sum of the weights
abbrev pub weighted : List ℕ → List V3 → V3
weighted [] vs = origin
weighted (w ∷ ws) [] = origin
weighted (w ∷ ws) (v ∷ vs) = pos w ·ᵛ v +ᵛ weighted ws vs

abbrev pub weight_sum : List ℕ → ℕ
weight_sum [] = 0
weight_sum (w ∷ ws) = w + weight_sum ws

-- whole weights, one for each point of a feature, not all zero
abbrev pub Weights : List ℕ → List Moving → Type 0
Weights ws ms = (length ws ≡ length ms) × (1 ≤ weight_sum ws)

-- v is n times a difference of two points, on a grid 2^k times as fine:
-- it is at least g·2^k/2^49 on some axis
pub data FarBy (g k n : ℕ) (v : V3) : Type 0 where
  on-x : g * 2 ^ k * n ≤ unsigned_abs v.x * 2 ^ 49 → FarBy g k n v
  on-y : g * 2 ^ k * n ≤ unsigned_abs v.y * 2 ^ 49 → FarBy g k n v
  on-z : g * 2 ^ k * n ≤ unsigned_abs v.z * 2 ^ 49 → FarBy g k n v

-- at the fraction p/q, the point of ms with the weights ws less the one of ns with the weights us,
-- times q and both sums
abbrev pub difference : ℕ → ℕ → List ℕ → List Moving → List ℕ → List Moving → V3
difference p q ws ms us ns =
    pos (weight_sum us) ·ᵛ weighted ws (map (at p q) ms)
    -ᵛ pos (weight_sum ws) ·ᵛ weighted us (map (at p q) ns)

-- at the fraction p/q any point of the one feature is that far from any of the other
abbrev pub ApartAt : ℕ → ℕ → ℕ → Shape → Type 0
ApartAt g p q t =
    (ws us : List ℕ) → Weights ws (first t) → Weights us (second t)
    → FarBy g t.scale (weight_sum ws * weight_sum us * q) (difference p q ws (first t) us (second t))

-- and so at every fraction of the step
abbrev pub ApartBy : ℕ → Shape → Type 0
ApartBy g t = (p q : ℕ) → 1 ≤ q → p ≤ q → ApartAt g p q t

-- the gap that a filter owes: 1/2^49 of a unit
abbrev pub gap : ℕ
gap = 1

abbrev pub Apart : Shape → Type 0
Apart = ApartBy gap

-- ---- subintervals: part j of the 2^h equal ones of the step, on a grid 2^h times as fine
unfoldable pub after : ℕ → ℕ → Moving → V3
unfolding at
after h j m = at j (2 ^ h) m

abbrev pub portion : ℕ → ℕ → Moving → Moving
portion h j m = record { start = after h j m; end = after h (j + 1) m }

-- a test with its points moved by g, on another grid
abbrev pub with_points : (Moving → Moving) → ℕ → Shape → Shape
with_points g scale t = record { kind = t.kind; p = g t.p; a = g t.a; b = g t.b; c = g t.c; scale = scale }

abbrev pub subinterval : ℕ → ℕ → Shape → Shape
subinterval h j t = with_points (portion h j) (t.scale + h) t

abbrev pub half : ℕ → Shape → Shape
half j t = subinterval 1 j t

-- ---- the two laws of a filter's set
pub record LawfulBy (g : ℕ) (set : Shape → Bool) : Type 0 where
  pub apart : (t : Shape) → Valid t → IsTrue (set t) → ApartBy g t
  pub halves :
      (t : Shape) → Valid t → t.scale ≤ 5 → IsTrue (set t)
      → IsTrue (set (half 0 t)) × IsTrue (set (half 1 t))

abbrev pub Lawful : (Shape → Bool) → Type 0
Lawful = LawfulBy gap
