use Rattle.std.proofs.Common.{◌≡◌, ◌-◌, ◌++◌, cond, take, is_ok, arith}
use Rattle.std.proofs.lemmas.Grind.{common_steps}
use borrow.Rule.Slice.PartMut.{post_of}
use Rattle.sheet.specs.Checks.{first_fit, fault_notice}
use Rattle.sheet.specs.Sheet.{onto_front}
use Rattle.step.specs.Faults.{notice_of_step}
use Rattle.step.specs.Laying.{with_ends, lay_checks}
use Rattle.step.proofs.LayAnswers.{lay_only, lay_back}
use Rattle.step.proofs.laying.lay.Goals as goal

pub returns : goal.returns
returns c =
    let n = c.args.draft.now.points in
    let ps = c.args.points.now in
    let bs = c.args.bytes.now in
    let qs = c.lay_rows.new.rows ++ post_of 0 (c.points-count.result - 0) ps in
    let a : fault_notice notice_of_step c.lay_rows.result ≡ first_fit (lay_checks n ps bs) = grind (arith, common_steps) in
    let t : qs ≡ cond (is_ok c.lay_rows.result) (onto_front (with_ends (take n ps) bs) ps) ps = grind (arith, common_steps) in
    record {
      fault = a;
      points = t;
      only = lay_only c.lay_rows.result n ps qs bs (λ k. (c.type_inv.bytes k).fits) a t;
      back = λ ends h s. lay_back c.lay_rows.result n ps qs ends bs a t h s;
    }
