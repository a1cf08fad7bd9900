use Rattle.std.proofs.Common.{◌≡◌, ◌*◌, ◌≤◌, length, take}
use Rattle.near_faces.specs.Near.{near_from}
use Rattle.near_faces.specs.inner.Listing.{put}
use Rattle.near_faces.specs.inner.Sides.{boxes_in}
use Rattle.near_faces.proofs.pairs.list_all.Given as goal

-- the pairs of the faces below i are counted and written
abbrev pub invariant-loop-i : goal.invariant-loop-i
invariant-loop-i l =
    let boxes = boxes_in l.sides 0 l.faces in
    record {
      count : l.count ≡ length (near_from boxes 0 (take l.i boxes));
      few : l.count ≤ 4096 * l.i;
      pairs : l.pairs ≡ put (near_from boxes 0 (take l.i boxes)) l.fn.pairs;
    }
