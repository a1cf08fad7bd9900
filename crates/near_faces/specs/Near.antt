-- The near pairs of faces: those whose boxes meet.
use Rattle.std.specs.Prelude.{◌≡◌, ◌⊎◌, ℕ, ◌+◌, ◌<◌, IsTrue, ◌&&◌, if◌then◌else◌, List, [], ◌∷◌, ◌++◌, length, nat_lt, slice_index_or, All, AllPairs, Contains}
use Rattle.inspection.specs.Sheets.{Sheet}
use Rattle.inspection.specs.declared.offerings.Offering.{Offering}
use Rattle.inspection.specs.declared.offerings.Offering.TheVariants.{Faces}
use Rattle.near_faces.specs.declared.boxes.SweptBox.{SweptBox}
use Rattle.near_faces.specs.declared.pairs.Pair.{Pair}
use Rattle.near_faces.specs.Boxes.{box_around, meets, swept_boxes}

abbrev pub pair : ℕ → ℕ → Pair
pair i j = record { first = i; second = j }

-- as it is offered
abbrev pub offering_of : Pair → Offering
offering_of p = Faces p.first p.second

-- the pairs of a face with the later ones of a run that meet its box; the run begins at this number
abbrev pub near_to : ℕ → SweptBox → ℕ → List SweptBox → List Pair
near_to i b first [] = []
near_to i b first (c ∷ cs) =
    let later = near_to i b (first + 1) cs in
    if nat_lt i first && meets b c then pair i first ∷ later else later

-- the pairs of the faces from this number on, which have these boxes, among all
abbrev pub near_from : List SweptBox → ℕ → List SweptBox → List Pair
near_from all i [] = []
near_from all i (b ∷ bs) = near_to i b 0 all ++ near_from all (i + 1) bs

abbrev pub near : List SweptBox → List Pair
near boxes = near_from boxes 0 boxes

abbrev pub near_pairs : Sheet → List Pair
near_pairs s = near (swept_boxes s)

-- ---- what these pairs are
abbrev pub box_at : List SweptBox → ℕ → SweptBox
box_at boxes i = slice_index_or boxes i (box_around [])

-- two faces, the lower number first, whose boxes meet
pub record Near (boxes : List SweptBox) (p : Pair) : Type 0 where
  pub lower_first : p.first < p.second
  pub within : p.second < length boxes
  pub meet : IsTrue (meets (box_at boxes p.first) (box_at boxes p.second))

abbrev pub PairBefore : Pair → Pair → Type 0
PairBefore p q = (p.first < q.first) ⊎ ((p.first ≡ q.first) × (p.second < q.second))

-- all near pairs and no other, in ascending order
pub record NearPairs (boxes : List SweptBox) (ps : List Pair) : Type 0 where
  pub all : (p : Pair) → Near boxes p → Contains ps p
  pub only : All (Near boxes) ps
  pub ascending : AllPairs PairBefore ps
