use Rattle.std.proofs.Common.{arith}
use Rattle.std.proofs.lemmas.Grind.{common_steps}
use Rattle.std.proofs.lemmas.Int.{to_z-of_z}
use Rattle.step.proofs.writing.moves.Goals as goal

pub returns : goal.returns
returns c = grind (arith, common_steps, to_z-of_z)
