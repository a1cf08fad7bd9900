use Rattle.std.proofs.Common.{◌≡◌, Ok, refl, ap, ◌∙◌, subst, lit≤}
use Rattle.inspection.specs.declared.offerings.Offering.TheVariants.{Faces}
use Rattle.inspection.specs.Sheets.{sheet_in}
use Rattle.inspection.specs.States.{State, state_of, state_at_start}
use Rattle.inspection.specs.Runs.{opened, depth_set, offered}
use Rattle.example_filter.specs.ByHand.{deeper, OfferedMeanwhile}
use Rattle.example_filter.proofs.by_hand.inspect_by_hand.Goals as goal

-- the calls, one after the other, are a run by the same filter
pub returns-clause-offered : goal.returns-clause-offered
returns-clause-offered g c =
    let a = c.args in
    let set = g.F.Filter.struck a.filter in
    let ps = a.points.now in
    let fs = a.faces.now in
    let r = c.offer_meanwhile.result.0 in
    let t : State = state_of c.in-Some.inspection c.accepted.new.lists in
    let u : State = state_of c.offer_in_vain.new.inspection c.offer_in_vain.new.lists in
    let v : State = state_of c.set_depth.new.self c.offer_in_vain.new.lists in
    let w : State = state_of c.offer_meanwhile.new.inspection c.offer_meanwhile.new.lists in
    let e0 = c.open-inspection.ensures.filter in
    let e1 = c.in-Some.ensures.filter ∙ e0 in
    let e2 = c.offer_in_vain.ensures.filter ∙ e1 in
    let e3 = c.in-Ok.ensures.filter ∙ e2 in
    let first = rw (c.open-inspection.ensures.state, e0) at c.in-Some.ensures.call in
    let before : v ≡ deeper t = (λ k. record { core = c.in-Ok.ensures.call.core k; lists = u.lists }) ∙ ap deeper c.offer_in_vain.ensures.state in
    let second = subst (λ (s : State). OfferedMeanwhile set ps fs (Faces a.second a.first) s r w) before (rw e3 at c.offer_meanwhile.ensures.offered) in
    let start = opened {s = state_at_start a.draft 2 a.lists.now} (record { depth = lit≤ tt; core = refl; vf = refl; ee = refl; vf_marks = refl; ee_marks = refl }) in
    let once = offered ps fs (Faces a.first a.second) (Ok tt) t start (λ h. refl) first in
    let run = depth_set 3 (Ok tt) (deeper t) once (record { fault = refl; core = refl }) refl in
    record {
      middle = t;
      first = first;
      core = w.core;
      answer = r;
      second = second;
      counted = c.offer_meanwhile.ensures.counts;
      claim = second.claim a.draft (sheet_in a.draft ps fs) _ (λ h. refl) run;
    }
