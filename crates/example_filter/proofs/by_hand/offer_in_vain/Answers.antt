use Rattle.std.proofs.Common.{◌≡◌, ◌≤◌, ◌∙◌, length, take, arith, length-take}
use Rattle.inspection.specs.States.{State, state_of}
use Rattle.example_filter.proofs.ByHand.{itself, cut_short}
use Rattle.example_filter.proofs.by_hand.offer_in_vain.Goals as goal

pub returns-clause-state : goal.returns-clause-state
returns-clause-state g c =
    let a = c.args in
    let fs = a.faces.now in
    let s : State = state_of a.inspection.now a.lists.now in
    let t : State = state_of c.offer.new.self c.offer.new.lists in
    let u : State = state_of c.offer-2.new.self c.offer-2.new.lists in
    let short : length (take c.min.result fs) ≤ a.first = omega (arith, length-take c.min.result fs) in
    let same : t ≡ s = itself (g.F.Filter.struck a.inspection.now.filter) a.points.now fs a.first s t c.offer.result c.offer.ensures.call in
    cut_short (g.F.Filter.struck c.offer.new.self.filter) a.points.now (take c.min.result fs) a.first t u a.second c.offer-2.result short c.offer-2.ensures.call ∙ same
