use Rattle.std.proofs.Common.{◌≡◌, ◌≤◌, ◌++◌, Ok}
use Rattle.plan.specs.PairBytes.{offerings_in, offerings_left}
use Rattle.inspection.specs.States.{state_of}
use Rattle.works.specs.inspect.inner.Progress.{Offers}
use Rattle.works.proofs.inspect.offering.offer_pairs.Given as goal

-- the pairs that the iterator has given are offered
abbrev pub invariant-loop-what : goal.invariant-loop-what
invariant-loop-what g l = record {
  going : Offers g.H.Host.does g.H.Host.fails (g.F.Filter.struck l.fn.inspection.filter) l.points l.faces l.yielded
      (state_of l.fn.inspection l.fn.lists) (state_of l.inspection l.lists) l.fn.host (Ok (tt {0})) l.host;
  filter : l.inspection.filter ≡ l.fn.inspection.filter;
  less : g.H.Host.most l.host ≤ g.H.Host.most l.fn.host;
  left : offerings_in l.pairs ≡ l.yielded ++ offerings_left l.what-iterator;
}
