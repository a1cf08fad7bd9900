use Rattle.std.proofs.Common.{◌≡◌, None}
use Rattle.sheet.specs.Checks.{first_fit}
use Rattle.sheet.specs.Lines.{numbered_lines}
use Rattle.sheet.specs.Numbered.{lines_left}
use Rattle.sheet.specs.Sheet.{lines_checks, points_in, faces_in, points_below, faces_below}
use Rattle.sheet.proofs.Walking.{pasted}
use Rattle.sheet.proofs.reader.fill.Given as goal

abbrev pub invariant-loop-line : goal.invariant-loop-line
invariant-loop-line l =
    (first_fit (lines_checks l.room l.above (lines_left l.line-iterator)) ≡ None)
    × (pasted l.points l.above.points (points_below l.above (lines_left l.line-iterator)) ≡ pasted l.initial.points 0 (points_in (numbered_lines l.text)))
    × (pasted l.faces l.above.faces (faces_below l.above (lines_left l.line-iterator)) ≡ pasted l.initial.faces 0 (faces_in (numbered_lines l.text)))
