use Rattle.std.proofs.Common.{◌≡◌, ◌*◌, min, length, take}
use Rattle.near_faces.specs.inner.Listing.{marked, put}
use Rattle.near_faces.proofs.pairs.put_marked.Given as goal

-- the pairs of the first s strides are written, as far as there is room
abbrev pub invariant-loop-s : goal.invariant-loop-s
invariant-loop-s l =
    record {
      count : l.count ≡ min (length l.fn.pairs) (length (marked l.face l.first (take (16 * l.s) l.marks)));
      pairs : l.pairs ≡ put (marked l.face l.first (take (16 * l.s) l.marks)) l.fn.pairs;
    }
