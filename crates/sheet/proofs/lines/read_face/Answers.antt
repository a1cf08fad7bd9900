use Rattle.std.proofs.Common.{[], ◌∷◌}
use Rattle.std.proofs.lemmas.Result.{err_from_is_err_and}
use Rattle.sheet.specs.Sheet.{spot, corner_checks, point_named}
use Rattle.sheet.proofs.FirstFit.{second_fits, third_fits}
use Rattle.sheet.proofs.lines.read_face.Goals as goal

pub returns-in_err-b-clause-fault : goal.returns-in_err-b-clause-fault
returns-in_err-b-clause-fault c =
    let p = err_from_is_err_and c.from_residual-in_err-b.result c.from_residual-in_err-b.ensures.1 in
    let s = c.split_fields-fields.ensures in
    let f = c.split_fields-fields.result in
    let a = corner_checks c.args.points (spot c.args.line 1) [] f.first.now in
    let b = corner_checks c.args.points (spot c.args.line 2) (point_named c.args.points f.first.now ∷ []) f.second.now in
    let third = corner_checks c.args.points (spot c.args.line 3) (point_named c.args.points f.first.now ∷ (point_named c.args.points f.second.now ∷ [])) f.third.now in
    let told = rw c.in_ok-a.ensures.named at c.in_err-b.ensures.fault in
    rw (p.1, p.2, ← s.first, ← s.second, ← s.third) (second_fits a b third _ c.in_ok-a.ensures.fault told)

pub returns-in_err-c-clause-fault : goal.returns-in_err-c-clause-fault
returns-in_err-c-clause-fault c =
    let p = err_from_is_err_and c.from_residual-in_err-c.result c.from_residual-in_err-c.ensures.1 in
    let s = c.split_fields-fields.ensures in
    let f = c.split_fields-fields.result in
    let a = corner_checks c.args.points (spot c.args.line 1) [] f.first.now in
    let b = corner_checks c.args.points (spot c.args.line 2) (point_named c.args.points f.first.now ∷ []) f.second.now in
    let third = corner_checks c.args.points (spot c.args.line 3) (point_named c.args.points f.first.now ∷ (point_named c.args.points f.second.now ∷ [])) f.third.now in
    let passed = rw c.in_ok-a.ensures.named at c.in_ok-b.ensures.fault in
    let told = rw (c.in_ok-a.ensures.named, c.in_ok-b.ensures.named) at c.in_err-c.ensures.fault in
    rw (p.1, p.2, ← s.first, ← s.second, ← s.third) (third_fits a b third _ c.in_ok-a.ensures.fault passed told)
