use Rattle.std.proofs.Common.{◌≡◌, take, drop}
use Rattle.inspection.specs.States.{state_of, state_at_start}
use Rattle.inspection.specs.Requests.{Calls}
use Rattle.inspection.proofs.inspections.working.inspect.Given as goal

-- the first i requests are worked
abbrev pub invariant-loop-i : goal.invariant-loop-i
invariant-loop-i g l = record {
  calls : Calls (g.F.Filter.struck l.fn.filter) l.points l.faces (take l.i l.requests) (take l.i l.answers) (state_at_start l.fn.draft l.depth l.fn.lists) (state_of l.inspection l.lists);
  filter : l.inspection.filter ≡ l.fn.filter;
  rest : drop l.i l.answers ≡ drop l.i l.fn.answers;
}
