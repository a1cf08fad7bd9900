use Rattle.std.proofs.Common.{◌≡◌}
use Rattle.motion.specs.Plane.{velocity_normal, 2n̂}
use Rattle.filters.proofs.Reaches.{reached, same-reach, plus-reach, minus-reach}
use Rattle.filters.proofs.Volumes.{n0-reach, n1-reach, velocity-normal-reach}
use Rattle.filters.proofs.planes.Factors.of.Goals as goal

-- ---- the normals
pub plus-requires : goal.plus-requires
plus-requires c =
    let t = c.args.test.now.shape in
    let v = c.args.test.now.valid in
    (reached c.normal-n0.ensures (n0-reach t v) tt, reached c.normal-n1.ensures (n1-reach t v) tt)

pub minus-requires : goal.minus-requires
minus-requires c =
    let t = c.args.test.now.shape in
    let v = c.args.test.now.valid in
    let n : c.normal-of_moves.result ≡ velocity_normal t = cc in
    (reached c.plus.ensures (plus-reach (same-reach c.normal-n0.ensures (n0-reach t v)) (same-reach c.normal-n1.ensures (n1-reach t v))) tt, reached n (velocity-normal-reach t v) tt)

pub invariant_of-result : goal.invariant_of-result
invariant_of-result c =
    let t = c.args.test.now.shape in
    let v = c.args.test.now.valid in
    let n : c.minus.result ≡ 2n̂ t = cc in
    record {
      start = (c.way-4.ensures.reach, same-reach c.normal-n0.ensures (n0-reach t v));
      end = (c.way-5.ensures.reach, same-reach c.normal-n1.ensures (n1-reach t v));
      middle = same-reach n (minus-reach (plus-reach (n0-reach t v) (n1-reach t v)) (velocity-normal-reach t v));
    }
