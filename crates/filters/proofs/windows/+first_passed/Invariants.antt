use Rattle.filters.proofs.windows.+first_passed.Given as goal

abbrev pub decreases-first_passed : goal.decreases-first_passed
decreases-first_passed g l = l.depth
