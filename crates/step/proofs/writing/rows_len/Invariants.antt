use Rattle.std.proofs.Common.{◌≡◌, ◌*◌, ◌≤◌, length, take}
use Rattle.step.specs.Record.{record_of}
use Rattle.step.proofs.writing.rows_len.Given as goal

abbrev pub invariant-loop-row : goal.invariant-loop-row
invariant-loop-row l = (l.n ≡ length (record_of (take l.row-index l.rows))) × (l.n ≤ 7 * l.row-index)
