use Rattle.std.proofs.Common.{◌+◌}
use Rattle.motion.proofs.Subintervals.{valid-last}
use Rattle.filters.proofs.Inside.{same-valid}
use Rattle.filters.proofs.tests.Test.last_half.Goals as goal

pub invariant_of-result : goal.invariant_of-result
invariant_of-result c =
    let t = c.args.self.now.shape in
    record {
      valid = same-valid t.kind (t.scale + 1) c.last_portion.ensures c.last_portion-2.ensures c.last_portion-3.ensures c.last_portion-4.ensures (valid-last t c.args.self.now.valid c.requires);
    }
