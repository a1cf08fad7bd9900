use Rattle.std.proofs.Common.{◌≡◌, take}
use Rattle.near_faces.specs.inner.Sides.{boxes_in}
use Rattle.near_faces.proofs.sides.Sides.of.Given as goal

-- the boxes below i are written
abbrev pub invariant-loop-i : goal.invariant-loop-i
invariant-loop-i l = boxes_in l.sides 0 l.i ≡ take l.i l.boxes
