use Rattle.std.proofs.Common.{◌≡◌, ◌≤◌, ◌++◌, length, map, take, drop}
use Rattle.std.specs.List.{count_by}
use Rattle.near_faces.specs.Boxes.{meets}
use Rattle.near_faces.specs.inner.Sides.{boxes_in}
use Rattle.near_faces.proofs.sides.Sides.mark.Given as goal

-- the first k boxes are tested
abbrev pub invariant-loop-k : goal.invariant-loop-k
invariant-loop-k l =
    let run = boxes_in l.self l.first (length l.fn.marks) in
    record {
      marks : l.marks ≡ map (meets l.swept) (take l.k run) ++ drop l.k l.fn.marks;
      count : l.count ≡ count_by (meets l.swept) (take l.k run);
      few : l.count ≤ l.k;
    }
