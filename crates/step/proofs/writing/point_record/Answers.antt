use Rattle.std.proofs.Common.{append_assoc, arith}
use Rattle.std.proofs.lemmas.Grind.{common_steps}
use Rattle.std.proofs.lemmas.Int.{to_z-of_z}
use Rattle.step.proofs.writing.point_record.Goals as goal

pub returns : goal.returns
returns c = grind (arith, common_steps, append_assoc, to_z-of_z)
