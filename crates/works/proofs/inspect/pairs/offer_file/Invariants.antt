use Rattle.std.proofs.Common.{◌≡◌, length, Ok}
use Rattle.inspection.specs.States.{state_of}
use Rattle.works.specs.inspect.inner.Progress.{IsFull, OffersPieces}
use Rattle.works.proofs.inspect.pairs.offer_file.Given as goal

-- the pieces so far were full, and their pairs are offered
abbrev pub invariant-loop-n : goal.invariant-loop-n
invariant-loop-n g l = record {
  going : OffersPieces g.H.Host.does g.H.Host.fails IsFull (g.F.Filter.struck l.fn.inspection.filter) l.points l.faces
      (state_of l.fn.inspection l.fn.lists) (state_of l.inspection l.lists) l.fn.host (Ok (tt {0})) l.host;
  filter : l.inspection.filter ≡ l.fn.inspection.filter;
  room : length l.pairs ≡ length l.fn.pairs;
}

abbrev pub decreases-loop-n : goal.decreases-loop-n
decreases-loop-n g l = g.H.Host.most l.host
