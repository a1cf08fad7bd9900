use Rattle.std.proofs.Common.{length}
use Rattle.near_faces.proofs.nodes.+build.Given as goal

abbrev pub decreases-build : goal.decreases-build
decreases-build l = length l.run.now
