use Rattle.std.proofs.Common.{◌≡◌}
use Rattle.sheet.specs.Checks.{first_fit}
use Rattle.sheet.specs.Lines.{numbered_lines}
use Rattle.sheet.specs.Numbered.{lines_left}
use Rattle.sheet.specs.inner.Passes.{counts_after}
use Rattle.sheet.specs.Sheet.{no_rows, lines_checks}
use Rattle.sheet.proofs.reader.survey.Given as goal

abbrev pub invariant-loop-line : goal.invariant-loop-line
invariant-loop-line l =
    (first_fit (lines_checks l.room l.above (lines_left l.line-iterator)) ≡ first_fit (lines_checks l.room no_rows (numbered_lines l.text)))
    × (counts_after l.above (lines_left l.line-iterator) ≡ counts_after no_rows (numbered_lines l.text))
