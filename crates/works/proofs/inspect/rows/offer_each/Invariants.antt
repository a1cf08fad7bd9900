use Rattle.std.proofs.Common.{◌≡◌, Ok, take, map}
use Rattle.inspection.specs.States.{state_of}
use Rattle.works.specs.inspect.inner.Progress.{Offers}
use Rattle.near_faces.specs.Near.{offering_of}
use Rattle.works.proofs.inspect.rows.offer_each.Given as goal

-- the first pairs are offered
abbrev pub invariant-loop-pair : goal.invariant-loop-pair
invariant-loop-pair g l = record {
  going : Offers g.H.Host.does g.H.Host.fails (g.F.Filter.struck l.fn.inspection.filter) l.points l.faces (map offering_of (take l.pair-index l.pairs))
      (state_of l.fn.inspection l.fn.lists) (state_of l.inspection l.lists) l.fn.host (Ok (tt {0})) l.host;
  filter : l.inspection.filter ≡ l.fn.inspection.filter;
}
