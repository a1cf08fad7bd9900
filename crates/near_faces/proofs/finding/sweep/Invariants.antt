use Rattle.std.proofs.Common.{◌≡◌, ◌<◌, ◌++◌, false, Some, length, map, take, drop}
use Rattle.inspection.specs.Sheets.{sheet_of, face_at}
use Rattle.inspection.specs.Tests.{corners_inside}
use Rattle.near_faces.specs.Boxes.{swept_box}
use Rattle.near_faces.specs.Searches.{lowest_outside}
use Rattle.near_faces.proofs.Sweeping.{InsideBelow}
use Rattle.near_faces.proofs.finding.sweep.Given as goal

-- the faces below i have their corners among the points, and their boxes are written; what is told where the next has not
abbrev pub invariant-loop-i : goal.invariant-loop-i
invariant-loop-i l =
    let s = sheet_of l.points l.faces in
    record {
      inside : InsideBelow s l.i;
      here : l.i < length l.faces → corners_inside s (face_at s l.i) ≡ false → lowest_outside s ≡ Some l.i;
      boxes : l.boxes ≡ map (swept_box s) (take l.i l.faces) ++ drop l.i l.fn.boxes;
    }
