-- Slab: along one of thirteen directions each point of one feature stays beyond each of the other,
-- at start and at end.
use Rattle.std.specs.Prelude.{◌≡◌, ◌↔◌, Bool, ◌&&◌, ◌||◌, ◌⊎◌, List, [], ◌∷◌, Contains, ℤ, pos, negsuc, int_lt}
use Rattle.std.specs.List.{list_all, list_any}
use Rattle.motion.specs.declared.shapes.V3.{V3}
use Rattle.motion.specs.declared.shapes.Shape.{Shape}
use Rattle.motion.specs.Vectors.{◌-ᵛ◌, dot, vector}
use Rattle.motion.specs.Features.{first, second}

-- what holds of each pair of a point of the first feature and one of the second,
-- at start and at end
abbrev pub pairs : (V3 → Bool) → Shape → Bool
pairs f t =
    list_all
    (λ m. list_all (λ n. f (m.start -ᵛ n.start) && f (m.end -ᵛ n.end)) (second t))
    (first t)

abbrev pub above : V3 → V3 → Bool
above d v = int_lt (pos 0) (dot d v)

abbrev pub below : V3 → V3 → Bool
below d v = int_lt (dot d v) (pos 0)

-- the direction's product is above zero for all pairs, or below zero for all
abbrev pub parted_along : Shape → V3 → Bool
parted_along t d = pairs (above d) t || pairs (below d) t

abbrev pub one : ℤ
one = pos 1

abbrev pub nought : ℤ
nought = pos 0

abbrev pub back : ℤ
back = negsuc 0

abbrev pub directions : List V3
directions =
    vector one nought nought ∷ vector nought one nought ∷ vector nought nought one
    ∷ vector one one nought ∷ vector one back nought ∷ vector one nought one ∷ vector one nought back
    ∷ vector nought one one ∷ vector nought one back
    ∷ vector one one one ∷ vector one one back ∷ vector one back one ∷ vector one back back ∷ []

abbrev pub slab_set : Shape → Bool
slab_set t = list_any (parted_along t) directions

-- ---- which directions these are
-- −1, 0 or 1
abbrev pub IsEntry : ℤ → Type 0
IsEntry z = (z ≡ back) ⊎ ((z ≡ nought) ⊎ (z ≡ one))

-- the first entry that is not 0 is 1
abbrev pub LeadsByOne : V3 → Type 0
LeadsByOne d =
    (d.x ≡ one) ⊎ ((d.x ≡ nought) × ((d.y ≡ one) ⊎ ((d.y ≡ nought) × (d.z ≡ one))))

abbrev pub IsDirection : V3 → Type 0
IsDirection d = IsEntry d.x × IsEntry d.y × IsEntry d.z × LeadsByOne d

-- the table has each direction, and nothing else
abbrev pub ListsAllDirections : Type 0
ListsAllDirections = (d : V3) → Contains directions d ↔ IsDirection d
