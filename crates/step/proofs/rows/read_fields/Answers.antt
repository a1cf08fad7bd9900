use Rattle.std.proofs.Common.{refl, rules, w16, SFits}
use Rattle.std.proofs.lemmas.Int.{to_z-of_z}
use Rattle.std.proofs.lemmas.Result.{err_from_is_err_and}
use Rattle.sheet.proofs.FirstFit.{first_fit_append}
use Rattle.step.proofs.rows.read_fields.Goals as goal

pub returns-in_err-x-clause-fault : goal.returns-in_err-x-clause-fault
returns-in_err-x-clause-fault c =
    let p = err_from_is_err_and c.from_residual.result c.from_residual.ensures.1 in
    let fx : SFits w16 c.args.start.x = search rules in
    let x = simp to_z-of_z at c.in_err-x.ensures.fault in
    rw (p.1, p.2, first_fit_append, ← x) refl

pub returns-in_err-y-clause-fault : goal.returns-in_err-y-clause-fault
returns-in_err-y-clause-fault c =
    let p = err_from_is_err_and c.from_residual-in_err-y.result c.from_residual-in_err-y.ensures.1 in
    let fx : SFits w16 c.args.start.x = search rules in
    let fy : SFits w16 c.args.start.y = search rules in
    let x = simp to_z-of_z at c.in_ok-x.ensures.fault in
    let y = simp (to_z-of_z, c.in_ok-x.ensures.rest) at c.in_err-y.ensures.fault in
    rw (p.1, p.2, first_fit_append, ← x, first_fit_append, ← y) refl

pub returns-in_err-z-clause-fault : goal.returns-in_err-z-clause-fault
returns-in_err-z-clause-fault c =
    let p = err_from_is_err_and c.from_residual-in_err-z.result c.from_residual-in_err-z.ensures.1 in
    let fx : SFits w16 c.args.start.x = search rules in
    let fy : SFits w16 c.args.start.y = search rules in
    let fz : SFits w16 c.args.start.z = search rules in
    let x = simp to_z-of_z at c.in_ok-x.ensures.fault in
    let y = simp (to_z-of_z, c.in_ok-x.ensures.rest) at c.in_ok-y.ensures.fault in
    let z = simp (to_z-of_z, c.in_ok-y.ensures.rest, c.in_ok-x.ensures.rest) at c.in_err-z.ensures.fault in
    rw (p.1, p.2, first_fit_append, ← x, first_fit_append, ← y, ← z) refl

pub returns-clause-fault : goal.returns-clause-fault
returns-clause-fault c =
    let fx : SFits w16 c.args.start.x = search rules in
    let fy : SFits w16 c.args.start.y = search rules in
    let fz : SFits w16 c.args.start.z = search rules in
    let x = simp to_z-of_z at c.in_ok-x.ensures.fault in
    let y = simp (to_z-of_z, c.in_ok-x.ensures.rest) at c.in_ok-y.ensures.fault in
    let z = simp (to_z-of_z, c.in_ok-y.ensures.rest, c.in_ok-x.ensures.rest) at c.in_ok-z.ensures.fault in
    rw (first_fit_append, ← x, first_fit_append, ← y, ← z) refl
