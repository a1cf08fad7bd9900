use Rattle.works.proofs.of_frames.InMemory.{page_shown, refused_shown, claimed, settled}
use Rattle.works.proofs.two_frames.memory.inspect_in.Goals as goal

pub returns-clause-page : goal.returns-clause-page
returns-clause-page c = page_shown c.args.memory.now c.inspect_frames.new.host c.in-Ok.ending c.in-Ok.ensures

pub returns-clause-refused : goal.returns-clause-refused
returns-clause-refused c = refused_shown c.args.memory.now c.inspect_frames.new.host c.in-Ok.ending c.in-Ok.ensures

pub returns-clause-claims : goal.returns-clause-claims
returns-clause-claims c = claimed c.args.memory.now c.inspect_frames.new.host c.in-Ok.ending c.in-Ok.ensures

pub returns-clause-settles : goal.returns-clause-settles
returns-clause-settles c = settled c.args.memory.now c.inspect_frames.new.host c.in-Ok.ending c.in-Ok.ensures
