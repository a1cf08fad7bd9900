use Rattle.std.proofs.Common.{◌+◌, ◌*◌}
use Rattle.filters.proofs.depths.+striking.Given as goal

abbrev pub decreases-are_halves_struck : goal.decreases-are_halves_struck
decreases-are_halves_struck g l = 2 * l.depth + 1

abbrev pub decreases-struck : goal.decreases-struck
decreases-struck g l = 2 * l.depth
