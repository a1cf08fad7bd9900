use Rattle.std.proofs.Common.{[], ◌∷◌, Ok, Err, subst, ◌∙◌, arith}
use Rattle.std.proofs.lemmas.Result.{err_from_is_err_and}
use Rattle.inspection.specs.States.{state_of}
use Rattle.works.specs.inspect.inner.Progress.{Offers}
use Rattle.works.proofs.of_a_plan.TableOfPairs.{one_more, cut_at}
use Rattle.works.proofs.inspect.rows.offer_each.Goals as goal

pub returns-in_err-offer_pair-clause-offers : goal.returns-in_err-offer_pair-clause-offers
returns-in_err-offer_pair-clause-offers g c =
    let l = c.loop-pair in
    let s = state_of c.args.inspection.now c.args.lists.now in
    let t = state_of l.inspection l.lists in
    let u = state_of c.offer_pair.new.inspection c.offer_pair.new.lists in
    let fault = err_from_is_err_and c.from_residual.result c.from_residual.ensures.1 in
    cut_at g.H.Host.does g.H.Host.fails (g.F.Filter.struck c.args.inspection.now.filter) c.args.points.now c.args.faces.now c.args.pairs.now l.pair-index _ c.offering.result (omega arith) c.offering.ensures
    s t u u c.args.host.now l.host c.offer_pair.new.host c.in_err-offer_pair.field-0.0 c.from_residual.result (rw (← fault.2) fault.1) l.invariant.going
    (subst (λ f. Offers {X = Unit {0}} g.H.Host.does g.H.Host.fails (g.F.Filter.struck f) c.args.points.now c.args.faces.now (c.offering.result ∷ []) t u l.host (Err c.in_err-offer_pair.field-0.0) c.offer_pair.new.host)
    l.invariant.filter c.in_err-offer_pair.ensures.offers)

pub loop-pair-preserved : goal.loop-pair-preserved
loop-pair-preserved g c =
    let l = c.loop-pair in
    let s = state_of c.args.inspection.now c.args.lists.now in
    let t = state_of l.inspection l.lists in
    let u = state_of c.offer_pair.new.inspection c.offer_pair.new.lists in
    record {
      going = one_more g.H.Host.does g.H.Host.fails (g.F.Filter.struck c.args.inspection.now.filter) c.args.points.now c.args.faces.now c.args.pairs.now l.pair-index _ c.offering.result (omega arith) c.offering.ensures
          s t u c.args.host.now l.host c.offer_pair.new.host l.invariant.going
          (subst (λ f. Offers {X = Unit {0}} g.H.Host.does g.H.Host.fails (g.F.Filter.struck f) c.args.points.now c.args.faces.now (c.offering.result ∷ []) t u l.host (Ok tt) c.offer_pair.new.host) l.invariant.filter c.in_ok-offer_pair.ensures.offers);
      filter = c.in_ok-offer_pair.ensures.filter ∙ l.invariant.filter;
    }
