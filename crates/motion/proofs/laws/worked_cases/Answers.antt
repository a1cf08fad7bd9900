use Rattle.motion.proofs.Worked.{cases}
use Rattle.motion.proofs.laws.worked_cases.Goals as goal

pub returns-clause-cases : goal.returns-clause-cases
returns-clause-cases c = cases
