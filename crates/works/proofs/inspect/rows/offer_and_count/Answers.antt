use Rattle.std.proofs.Common.{◌-◌, length}
use Rattle.std.proofs.lemmas.Result.{err_from_is_err_and}
use Rattle.inspection.specs.States.{state_of}
use Rattle.works.proofs.of_a_plan.TableOfPairs.{unreported, reported}
use Rattle.works.proofs.inspect.rows.offer_and_count.Goals as goal

pub returns-in_err-print_found : goal.returns-in_err-print_found
returns-in_err-print_found g c =
    let fault = err_from_is_err_and c.from_residual-in_err-print_found.result c.from_residual-in_err-print_found.ensures.1 in
    unreported g.H.Host.does g.H.Host.fails c.args.inspection.now.draft c.args.points.now c.args.faces.now c.args.pairs.now
    (state_of c.args.inspection.now c.args.lists.now) (state_of c.offer_each.new.inspection c.offer_each.new.lists) c.args.host.now c.offer_each.new.host
    c.requires.begins c.requires.points c.requires.faces c.in_ok-offer_each.ensures.offers c.print_found.new.host fault.0 c.from_residual-in_err-print_found.result
    (rw fault.2 c.in_err-print_found.ensures.printed) fault.1

pub returns : goal.returns
returns g c =
    reported g.H.Host.does g.H.Host.fails c.args.inspection.now.draft c.args.points.now c.args.faces.now c.args.pairs.now
    (state_of c.args.inspection.now c.args.lists.now) (state_of c.offer_each.new.inspection c.offer_each.new.lists) c.args.host.now c.offer_each.new.host
    c.requires.begins c.requires.points c.requires.faces c.in_ok-offer_each.ensures.offers c.print_found.new.host c.in_ok-print_found.field-0 (length c.args.pairs.now - c.accepted.result)
    c.in_ok-print_found.ensures.printed c.in_ok-print_found.ensures.found.1 (λ i. length c.args.pairs.now - c.accepted.ensures i)
