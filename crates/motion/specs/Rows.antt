-- Sets of tests side by side: one that is part of another, and filters in a row.
use Rattle.std.specs.Prelude.{Bool, ◌||◌, IsTrue}
use Rattle.motion.specs.declared.shapes.Shape.{Shape}
use Rattle.motion.specs.Box.{box_set}
use Rattle.motion.specs.Slab.{slab_set}
use Rattle.motion.specs.Plane.{plane_set}

-- whatever f strikes, g strikes
abbrev pub IsPartOf : (Shape → Bool) → (Shape → Bool) → Type 0
IsPartOf f g = (t : Shape) → IsTrue (f t) → IsTrue (g t)

-- a row of two strikes exactly when one of them does
abbrev pub row : (Shape → Bool) → (Shape → Bool) → Shape → Bool
row f g t = f t || g t

-- the delivered filter: Slab, then Plane
abbrev pub delivered : Shape → Bool
delivered = row slab_set plane_set

-- and with Box before them
abbrev pub with_box : Shape → Bool
with_box = row (row box_set slab_set) plane_set
