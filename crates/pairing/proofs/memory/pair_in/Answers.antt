use Rattle.plan.specs.Memory.{left_in}
use Rattle.pairing.proofs.InMemory.{line_shown, pairs_shown}
use Rattle.pairing.proofs.Near.{serves}
use Rattle.pairing.proofs.memory.pair_in.Goals as goal

pub returns-clause-line : goal.returns-clause-line
returns-clause-line c = line_shown c.args.memory.now c.pair_plan.new.host c.in-Ok.ending c.in-Ok.ensures

pub returns-clause-kept : goal.returns-clause-kept
returns-clause-kept c = pairs_shown c.args.memory.now c.pair_plan.new.host c.in-Ok.ending c.in-Ok.ensures

pub returns-clause-serves : goal.returns-clause-serves
returns-clause-serves c = serves (left_in c.args.memory.now.files)
