use Rattle.near_faces.proofs.pairs.+list_one.Given as goal

abbrev pub decreases-list_one : goal.decreases-list_one
decreases-list_one l = l.count
