use Rattle.std.proofs.Common.{◌≡◌, drop}
use Rattle.sheet.specs.Checks.{first_fit}
use Rattle.step.specs.Laying.{rows_checks}
use Rattle.step.proofs.laying.survey.Given as goal

-- what is left decides
abbrev pub invariant-loop-i : goal.invariant-loop-i
invariant-loop-i l = first_fit (rows_checks l.i (drop l.i l.rows) l.rest) ≡ first_fit (rows_checks 0 l.rows l.bytes)
