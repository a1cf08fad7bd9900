use Rattle.filters.proofs.first_parts.+find_earliest.Given as goal

abbrev pub decreases-find_earliest : goal.decreases-find_earliest
decreases-find_earliest g l = l.depth
