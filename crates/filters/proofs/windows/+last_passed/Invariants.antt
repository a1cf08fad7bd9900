use Rattle.filters.proofs.windows.+last_passed.Given as goal

abbrev pub decreases-last_passed : goal.decreases-last_passed
decreases-last_passed g l = l.depth
