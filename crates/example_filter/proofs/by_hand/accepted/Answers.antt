use Rattle.std.proofs.Common.{refl, sym, ap}
use Rattle.std.specs.Prelude.{is_some}
use Rattle.example_filter.specs.ByHand.{fault_of_offer}
use Rattle.example_filter.proofs.by_hand.accepted.Goals as goal

-- the offer is refused: it has a fault
pub returns-in_default-clause-refused : goal.returns-in_default-clause-refused
unfolding fault_of_offer
returns-in_default-clause-refused g c = (λ none. ap is_some (sym c.in_default.ensures.call.fault), λ some. refl)
