use Rattle.std.proofs.Common.{◌-◌}
use Rattle.filters.proofs.InHalves.{few, below}
use Rattle.filters.proofs.first_parts.+find_earliest.Goals as goal

pub behind_first_half-requires-clause-part : goal.behind_first_half-requires-clause-part
behind_first_half-requires-clause-part g t c = below (g.F.Filter.struck c.args.filter.now) (c.args.depth - 1) _ _ c.find_earliest.ensures

pub behind_first_half-requires-clause-put : goal.behind_first_half-requires-clause-put
behind_first_half-requires-clause-put g t c = few (g.F.Filter.struck c.args.filter.now) (c.args.depth - 1) _ _ c.find_earliest.ensures
