use Rattle.inspection.specs.States.{state_of}
use Rattle.inspection.proofs.Claiming.{claim}
use Rattle.inspection.proofs.inspections.Inspection.findings.Goals as goal

pub returns-clause-claim : goal.returns-clause-claim
returns-clause-claim g c = λ d sheet h out run. claim (g.F.Filter.lawful c.args.self.now.filter) d sheet h out (state_of c.args.self.now c.args.lists.now) run
