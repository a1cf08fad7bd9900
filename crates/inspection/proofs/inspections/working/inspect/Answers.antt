use Rattle.std.proofs.Common.{◌≡◌, ◌≤◌, [], take, refl, ap, arith}
use Rattle.inspection.specs.Sheets.{sheet_in}
use Rattle.inspection.specs.Runs.{opened}
use Rattle.inspection.specs.States.{Core, state_of, state_at_start}
use Rattle.inspection.specs.Requests.{history}
use Rattle.inspection.proofs.Alike.{answers-alike}
use Rattle.inspection.proofs.Claiming.{claim}
use Rattle.inspection.proofs.Working.{worked-runs}
use Rattle.inspection.proofs.inspections.working.inspect.Goals as goal

pub returns-clause-run : goal.returns-clause-run
returns-clause-run g c =
    let a = c.args in
    let l = c.loop-i in
    let n : c.min-n.result ≡ l.i = omega arith in
    let k : a.depth ≤ 6 = omega (arith, ap (λ (x : Core). x.depth) c.in_ok-inspection.ensures.core, c.in_ok-inspection.ensures.begins.depth) in
    let start = opened (record { depth = k; core = refl; vf = refl; ee = refl; vf_marks = refl; ee_marks = refl }) in
    rw n (worked-runs (g.F.Filter.struck a.filter) a.points.now a.faces.now a.draft [] (take l.i a.requests.now) (take l.i l.answers) (state_at_start a.draft a.depth a.lists.now) (state_of l.inspection l.lists) start l.invariant.calls)

pub returns-clause-claim : goal.returns-clause-claim
returns-clause-claim g c =
    let a = c.args in
    let n = c.min-n.result in
    claim (g.F.Filter.lawful a.filter) a.draft (sheet_in a.draft a.points.now a.faces.now) (history a.depth (take n a.requests.now) (take n c.loop-i.answers)) []
    (state_of c.loop-i.inspection c.loop-i.lists) (returns-clause-run g c)

pub returns-clause-alike : goal.returns-clause-alike
returns-clause-alike g c =
    let a = c.args in
    let l = c.loop-i in
    let n : c.min-n.result ≡ l.i = omega arith in
    let k : a.depth ≤ 6 = omega (arith, ap (λ (x : Core). x.depth) c.in_ok-inspection.ensures.core, c.in_ok-inspection.ensures.begins.depth) in
    rw n (answers-alike (g.F.Filter.struck a.filter) a.points.now a.faces.now (take l.i a.requests.now) (take l.i l.answers) (state_at_start a.draft a.depth a.lists.now) (state_of l.inspection l.lists) k l.invariant.calls)
