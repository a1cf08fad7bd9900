use Rattle.std.proofs.Common.{◌-◌}
use Rattle.motion.proofs.Windows.{first_below}
use Rattle.filters.proofs.windows.+first_passed.Goals as goal

pub of_last_half-requires-clause-part : goal.of_last_half-requires-clause-part
of_last_half-requires-clause-part g t c = first_below (g.F.Filter.struck c.args.filter.now) (c.args.depth - 1) _ _ c.first_passed-2.ensures
