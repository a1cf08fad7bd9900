use Rattle.std.proofs.Common.{◌+◌, length, length-append, drop, flat_map, Ok, ap, subst, arith}
use Rattle.std.proofs.lemmas.List.{at_drop_all}
use Rattle.std.proofs.lemmas.Result.{err_from_is_err_and}
use Rattle.inspection.specs.Lists.{names}
use Rattle.inspection.specs.Sheets.{sheet_of_rows}
use Rattle.hosts.specs.Writing.{Prints}
use Rattle.hosts.proofs.Printing.{nothing_printed, printed_then, printed_short}
use Rattle.report.specs.Reports.{view_over, entry_line}
use Rattle.report.proofs.Entries.{left}
use Rattle.report.proofs.printing.print_entries.Goals as goal

pub returns-in_err-print_entry-clause-printed : goal.returns-in_err-print_entry-clause-printed
returns-in_err-print_entry-clause-printed g c =
    let line = entry_line g.E.TestName.naming (view_over g.F.Filter.struck c.args.inspection.now (sheet_of_rows c.args.rows)) g.E.HasLine.line in
    let ps = c.numbered-e-items.result.now in
    let i = c.loop-e.e-index in
    let p = c.e-item.result in
    let s = c.loop-e.host in
    let t = c.print_entry.new.host in
    let r = c.from_residual.result in
    let fault = err_from_is_err_and r c.from_residual.ensures.1 in
    c.loop-e.invariant.printed r t
    (subst (λ text. Prints g.H.Host.does g.H.Host.fails text s r t) (left line ps i p (omega arith) c.e-item.is)
    (printed_short g.H.Host.does g.H.Host.fails s t (line p.name) (flat_map line (names (drop (i + 1) ps))) fault.0 r (rw fault.2 c.in_err-print_entry.ensures.printed) fault.1))

pub loop-e-preserved : goal.loop-e-preserved
loop-e-preserved g c =
    let line = entry_line g.E.TestName.naming (view_over g.F.Filter.struck c.args.inspection.now (sheet_of_rows c.args.rows)) g.E.HasLine.line in
    let ps = c.numbered-e-items.result.now in
    let i = c.loop-e.e-index in
    let p = c.e-item.result in
    let s = c.loop-e.host in
    let t = c.print_entry.new.host in
    let rest = flat_map line (names (drop (i + 1) ps)) in
    let lines = left line ps i p (omega arith) c.e-item.is in
    record {
      printed = λ r u print. c.loop-e.invariant.printed r u
          (subst (λ text. Prints g.H.Host.does g.H.Host.fails text s r u) lines (printed_then g.H.Host.does g.H.Host.fails s t u (line p.name) rest tt r c.in_ok-print_entry.ensures.printed print));
      short = omega (arith, ap length lines, length-append (line p.name) rest);
    }

pub returns-clause-printed : goal.returns-clause-printed
returns-clause-printed g c =
    let line = entry_line g.E.TestName.naming (view_over g.F.Filter.struck c.args.inspection.now (sheet_of_rows c.args.rows)) g.E.HasLine.line in
    let ps = c.numbered-e-items.result.now in
    c.loop-e.invariant.printed (Ok tt) c.loop-e.host (rw (at_drop_all (λ qs. flat_map line (names qs)) ps c.loop-e.e-index (omega arith)) (nothing_printed g.H.Host.does g.H.Host.fails c.loop-e.host tt))
