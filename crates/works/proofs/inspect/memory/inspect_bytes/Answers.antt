use Rattle.std.proofs.Common.{rules}
use Rattle.plan.specs.Plans.{plan}
use Rattle.works.specs.inspect.Plans.{printout}
use Rattle.works.proofs.of_a_plan.Alike.{prints_alike}
use Rattle.works.proofs.of_a_plan.InMemory.{settled_onto}
use Rattle.works.proofs.inspect.memory.inspect_bytes.Goals as goal

pub returns-clause-alike : goal.returns-clause-alike
returns-clause-alike c = prints_alike (plan c.args.sheet.now c.args.step.now c.args.pairs.now)

pub returns-clause-settles : goal.returns-clause-settles
returns-clause-settles c =
    λ done room.
    let p = plan c.args.sheet.now c.args.step.now c.args.pairs.now in
    let text = c.inspect_in-ending.ensures.page _ c.new-page.ensures in
    let stored = c.inspect_in-ending.ensures.refused _ c.new-refused.ensures in
    settled_onto p (printout p).text (printout p).stored c.args.page.now _ c.args.refused.now _ _ (c.inspect_in-ending.ensures.settles done) (search (rules, text.len)) (search (rules, text.bytes)) room (search rules) (search (rules, stored.bytes))
