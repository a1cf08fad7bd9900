use Rattle.std.proofs.Common.{arith}
use Rattle.inspection.proofs.inspections.Inspection.earliest_of.Goals as goal

pub unreachable-requires : goal.unreachable-requires
unreachable-requires g c = grind (arith, c.in_default.ensures.answer)
