use Rattle.std.proofs.Common.{◌≡◌, ◌++◌, ◌≤◌, length, take, drop}
use Rattle.step.specs.Record.{record_of}
use Rattle.step.proofs.writing.put_rows.Given as goal

abbrev pub invariant-loop-row : goal.invariant-loop-row
invariant-loop-row l =
    (l.at ≡ length (record_of (take l.row-index l.rows)))
    × (l.out ≡ record_of (take l.row-index l.rows) ++ drop l.at l.initial.out)
    × (length (record_of l.rows) ≤ length l.initial.out)
