use Rattle.std.proofs.Common.{◌≡◌, ◌++◌, take, drop, None}
use Rattle.sheet.specs.Checks.{first_fit}
use Rattle.step.specs.Laying.{rows_checks, with_ends}
use Rattle.step.proofs.laying.fill.Given as goal

-- what is left has no fault, and the front of the table is done
abbrev pub invariant-loop-i : goal.invariant-loop-i
invariant-loop-i l =
    (first_fit (rows_checks l.i (drop l.i l.rows) l.rest) ≡ None)
    × (take l.i l.rows ++ with_ends (drop l.i l.rows) l.rest ≡ with_ends l.initial.rows l.bytes)
