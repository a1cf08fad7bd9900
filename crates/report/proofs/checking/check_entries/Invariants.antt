use Rattle.std.proofs.Common.{◌≡◌, drop}
use Rattle.sheet.specs.Checks.{first_fit}
use Rattle.inspection.specs.Lists.{names}
use Rattle.inspection.specs.Sheets.{sheet_of_rows}
use Rattle.report.specs.Reports.{checks_from}
use Rattle.report.proofs.checking.check_entries.Given as goal

-- the entries that are left decide
abbrev pub invariant-loop-i : goal.invariant-loop-i
invariant-loop-i g l =
    let from = checks_from g.E.TestName.naming g.E.HasLine.kind (sheet_of_rows l.rows) in
    first_fit (from l.i (names (drop l.i l.e-items))) ≡ first_fit (from 0 (names l.e-items))
