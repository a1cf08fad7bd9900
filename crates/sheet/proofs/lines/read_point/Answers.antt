use Rattle.std.proofs.lemmas.Result.{err_from_is_err_and}
use Rattle.sheet.specs.Sheet.{spot, coordinate_checks}
use Rattle.sheet.proofs.FirstFit.{second_fits, third_fits}
use Rattle.sheet.proofs.lines.read_point.Goals as goal

pub returns-in_err-y-clause-fault : goal.returns-in_err-y-clause-fault
returns-in_err-y-clause-fault c =
    let p = err_from_is_err_and c.from_residual-in_err-y.result c.from_residual-in_err-y.ensures.1 in
    let s = c.split_fields-fields.ensures in
    let f = c.split_fields-fields.result in
    let x = coordinate_checks (spot c.args.line 1) f.first.now in
    let y = coordinate_checks (spot c.args.line 2) f.second.now in
    let z = coordinate_checks (spot c.args.line 3) f.third.now in
    rw (p.1, p.2, ← s.first, ← s.second, ← s.third) (second_fits x y z _ c.in_ok-x.ensures.fault c.in_err-y.ensures.fault)

pub returns-in_err-z-clause-fault : goal.returns-in_err-z-clause-fault
returns-in_err-z-clause-fault c =
    let p = err_from_is_err_and c.from_residual-in_err-z.result c.from_residual-in_err-z.ensures.1 in
    let s = c.split_fields-fields.ensures in
    let f = c.split_fields-fields.result in
    let x = coordinate_checks (spot c.args.line 1) f.first.now in
    let y = coordinate_checks (spot c.args.line 2) f.second.now in
    let z = coordinate_checks (spot c.args.line 3) f.third.now in
    rw (p.1, p.2, ← s.first, ← s.second, ← s.third) (third_fits x y z _ c.in_ok-x.ensures.fault c.in_ok-y.ensures.fault c.in_err-z.ensures.fault)
