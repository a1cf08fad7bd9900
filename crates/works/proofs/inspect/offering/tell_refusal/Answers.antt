use Rattle.std.proofs.Common.{◌∙◌}
use Rattle.works.proofs.of_a_plan.Offers.{tells}
use Rattle.works.proofs.inspect.offering.tell_refusal.Goals as goal

pub returns-clause-told : goal.returns-clause-told
returns-clause-told g c =
    tells g.H.Host.does g.H.Host.fails c.args.host.now c.print.new.self c.args.notice c.args.what _ (c.as_bytes.ensures.value ∙ c.as_str.ensures.value ∙ c.notice_line.ensures)
    c.store.new.self _ c.store.result c.in_ok-print.ensures.printed c.store.ensures.stored c.pair_bytes.ensures
