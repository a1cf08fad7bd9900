-- What is marked of a run, and a table that a list is written over.
use Rattle.std.specs.Prelude.{ℕ, ◌+◌, Bool, if◌then◌else◌, List, [], ◌∷◌}
use Rattle.near_faces.specs.declared.pairs.Pair.{Pair}
use Rattle.near_faces.specs.Near.{pair}

-- the pairs of a face with the marked ones of a run that begins at this number
abbrev pub marked : ℕ → ℕ → List Bool → List Pair
marked i first [] = []
marked i first (m ∷ ms) =
    let later = marked i (first + 1) ms in
    if m then pair i first ∷ later else later

-- over its front, as far as there is room
abbrev pub put : {A : Type 0} → List A → List A → List A
put [] ys = ys
put (x ∷ xs) [] = []
put (x ∷ xs) (y ∷ ys) = x ∷ put xs ys
