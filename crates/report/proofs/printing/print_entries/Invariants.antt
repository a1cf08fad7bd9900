use Rattle.std.proofs.Common.{◌+◌, ◌*◌, ◌≤◌, length, drop, flat_map}
use Rattle.inspection.specs.Lists.{names}
use Rattle.inspection.specs.Sheets.{sheet_of_rows}
use Rattle.report.specs.Reports.{view_over, numbered_entries, entry_line}
use Rattle.report.proofs.Entries.{Leaves}
use Rattle.report.proofs.printing.print_entries.Given as goal

-- with what is left to print, all is printed
abbrev pub invariant-loop-e : goal.invariant-loop-e
invariant-loop-e g l =
    let line = entry_line g.E.TestName.naming (view_over g.F.Filter.struck l.inspection (sheet_of_rows l.rows)) g.E.HasLine.line in
    let all = flat_map line (numbered_entries l.list.entries) in
    let left = flat_map line (names (drop l.e-index l.e-items)) in
    record {
      printed : Leaves g.H.Host.does g.H.Host.fails all left l.fn.host l.host;
      short : length all ≤ 96 * l.e-index + length left;
    }
