use Rattle.std.proofs.Common.{◌≡◌, min, length, take}
use Rattle.near_faces.specs.inner.Listing.{marked, put}
use Rattle.near_faces.proofs.pairs.put_each.Given as goal

-- the pairs of the first k faces are written, as far as there is room
abbrev pub invariant-loop-k : goal.invariant-loop-k
invariant-loop-k l =
    record {
      count : l.count ≡ min (length l.fn.pairs) (length (marked l.face l.first (take l.k l.marks)));
      pairs : l.pairs ≡ put (marked l.face l.first (take l.k l.marks)) l.fn.pairs;
    }
