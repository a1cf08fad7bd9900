use Rattle.std.proofs.Common.{◌+◌}
use Rattle.motion.proofs.Subintervals.{valid-first}
use Rattle.filters.proofs.Inside.{same-valid}
use Rattle.filters.proofs.tests.Test.first_half.Goals as goal

pub invariant_of-result : goal.invariant_of-result
invariant_of-result c =
    let t = c.args.self.now.shape in
    record {
      valid = same-valid t.kind (t.scale + 1) c.first_portion.ensures c.first_portion-2.ensures c.first_portion-3.ensures c.first_portion-4.ensures (valid-first t c.args.self.now.valid c.requires);
    }
