use Rattle.std.proofs.Common.{◌<◌, take, get_or, arith}
use Rattle.std.proofs.lemmas.List.{drop-set-lt, length-map, length-take-le}
use Rattle.inspection.specs.declared.marks.Marked.{Marked}
use Rattle.inspection.proofs.Places.{names_stay, mark_written}
use Rattle.inspection.proofs.lists.List.set_mark.Goals as goal

pub returns : goal.returns
returns g c =
    let l = c.self.inside in
    let ps = l.table.now in
    let i = c.args.i in
    let old = get_or ps i c.index-places-i.result in
    let new : Marked g.row.E.Denot = record { name = old.name; mark = c.args.mark } in
    let within = rw (← c.self.view_is) at c.requires in
    let inside : i < l.len = omega (arith, within, length-map (take l.len ps) (λ p. p.name), length-take-le l.len ps l.fits) in
    rw (← c.self.view_is)
    (λ j. record {
      entries = names_stay ps l.len i c.args.mark c.index-places-i.result j;
      marks = mark_written ps l.len i c.args.mark old.name j;
      rest = drop-set-lt l.len ps i new inside j;
      lender = l.table.ghost_name;
    })
