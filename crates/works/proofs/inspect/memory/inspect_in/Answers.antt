use Rattle.works.proofs.of_a_plan.InMemory.{text_shown, refused_shown, claimed}
use Rattle.works.proofs.inspect.memory.inspect_in.Goals as goal

pub returns-clause-page : goal.returns-clause-page
returns-clause-page c = text_shown c.args.memory.now c.inspect_plan.new.host c.in-Ok.ending c.in-Ok.ensures

pub returns-clause-refused : goal.returns-clause-refused
returns-clause-refused c = refused_shown c.args.memory.now c.inspect_plan.new.host c.in-Ok.ending c.in-Ok.ensures

pub returns-clause-claim : goal.returns-clause-claim
returns-clause-claim c = claimed c.args.memory.now c.inspect_plan.new.host c.in-Ok.ending c.in-Ok.ensures
