use Rattle.inspection.specs.States.{core_of}
use Rattle.inspection.specs.declared.offerings.Offering.TheVariants.{Faces}
use Rattle.example_filter.proofs.Meanwhile.{meanwhile}
use Rattle.example_filter.proofs.by_hand.offer_meanwhile.Goals as goal

pub returns-clause-offered : goal.returns-clause-offered
returns-clause-offered g c =
    let a = c.args in
    let offer = c.offer_turned-answer in
    let same = offer.ensures.filter in
    meanwhile (g.F.Filter.struck a.inspection.now.filter) a.points.now a.faces.now (Faces a.second a.first) 0 1 (core_of a.inspection.now) (core_of offer.new.inspection)
    a.lists.now c.take-slip.new.lists offer.new.lists c.hand_back.new.lists
    c.take-slip.result offer.result c.take-slip.ensures offer.ensures.call c.hand_back.ensures c.slips_out.ensures.none_lost (rw same at c.findings.ensures.claim)
