-- The tree of a run of faces.
use Rattle.std.specs.Prelude.{◌≡◌, ℕ, ◌+◌, ◌-◌, ◌*◌, ◌<◌, ◌≤◌, List, [], ◌∷◌, ◌++◌, length}
use Rattle.sheet.specs.Sheet.{onto_front}
use Rattle.near_faces.specs.declared.boxes.SweptBox.{SweptBox}
use Rattle.near_faces.specs.declared.nodes.Node.{Node}
use Rattle.near_faces.specs.Boxes.{around}

-- the node of a run with these boxes
abbrev pub node : ℕ → List SweptBox → Node
node first run = record { first = first; count = length run; bounds = around run }

-- the first half is the longer, if one is
pub record Halves (lower upper : List SweptBox) : Type 0 where
  pub some : 0 < length upper
  pub fewer : length upper ≤ length lower
  pub one_at_most : length lower ≤ length upper + 1

-- the nodes of the tree of a run that begins at this face number and has these boxes
pub data IsTree : ℕ → List SweptBox → List Node → Type 0 where
  leaf : {first : ℕ} {b : SweptBox} → IsTree first (b ∷ []) (node first (b ∷ []) ∷ [])
  fork : {first : ℕ} {lower upper : List SweptBox} {ls us : List Node} → Halves lower upper
      → IsTree first lower ls → IsTree (first + length lower) upper us
      → IsTree first (lower ++ upper) (node first (lower ++ upper) ∷ (ls ++ us))

-- ---- in a table
-- how many places the tree of so many faces takes; of none there is no tree
abbrev pub places_for : ℕ → ℕ
places_for n = 2 * n - 1

abbrev pub TreeOf : List SweptBox → List Node → Type 0
TreeOf [] ns = ns ≡ []
TreeOf (b ∷ bs) ns = IsTree 0 (b ∷ bs) ns

-- the tree of all faces stands in front, and the other places are as they were
pub record TreeInFront (boxes : List SweptBox) (old new : List Node) : Type 0 where
  pub tree : List Node
  pub is : TreeOf boxes tree
  pub places : length tree ≡ places_for (length boxes)
  pub table : new ≡ onto_front tree old
