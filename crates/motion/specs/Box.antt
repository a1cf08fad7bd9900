-- Box: on some axis the greatest coordinate of one feature, over start and end,
-- is less than the least of the other.
use Rattle.std.specs.Prelude.{Bool, ◌||◌, List, [], ◌∷◌, ℤ, pos, int_lt}
use Rattle.std.specs.Int.{int_min, int_max}
use Rattle.motion.specs.declared.shapes.V3.{V3}
use Rattle.motion.specs.declared.shapes.Moving.{Moving}
use Rattle.motion.specs.declared.shapes.Shape.{Shape}
use Rattle.motion.specs.Features.{first, second}

-- the greatest of some numbers or the least, as f is of two;
-- no feature is empty, so the value at [] is never asked for
abbrev pub extreme : (ℤ → ℤ → ℤ) → List ℤ → ℤ
extreme f [] = pos 0
extreme f (x ∷ []) = x
extreme f (x ∷ y ∷ ys) = f x (extreme f (y ∷ ys))

-- the coordinates of points on an axis, over start and end
abbrev pub coordinates : (V3 → ℤ) → List Moving → List ℤ
coordinates axis [] = []
coordinates axis (m ∷ ms) = axis m.start ∷ axis m.end ∷ coordinates axis ms

abbrev pub greatest : List ℤ → ℤ
greatest = extreme int_max

abbrev pub least : List ℤ → ℤ
least = extreme int_min

abbrev pub under : (V3 → ℤ) → List Moving → List Moving → Bool
under axis ms ns = int_lt (greatest (coordinates axis ms)) (least (coordinates axis ns))

abbrev pub parted_on : (V3 → ℤ) → Shape → Bool
parted_on axis t = under axis (first t) (second t) || under axis (second t) (first t)

abbrev pub box_set : Shape → Bool
box_set t = parted_on (λ v. v.x) t || parted_on (λ v. v.y) t || parted_on (λ v. v.z) t
