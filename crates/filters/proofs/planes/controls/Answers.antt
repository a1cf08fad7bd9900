use Rattle.std.proofs.Common.{sym, ap, ◌∙◌}
use Rattle.motion.specs.Plane.{combined, controls, all_above, all_below}
use Rattle.motion.proofs.PlaneLaws.{stays-above, stays-below}
use Rattle.filters.proofs.Volumes.{small}
use Rattle.filters.proofs.planes.controls.Goals as goal

pub returns : goal.returns
unfolding controls
returns c =
    let f = c.of.ensures in
    let g = c.combined.ensures in
    let e = (λ i. record { g0 = g.g0 i; g1 = g.g1 i; g2 = g.g2 i; g3 = g.g3 i }) ∙ (λ i. combined (f.d0 i) (f.d1 i) (f.n0 i) (f.n1 i) (f.between i)) in
    let t = c.args.test.now in
    record {
      value = e;
      size = small t.shape t.valid _ e;
      above = λ h. stays-above t.shape (ap all_above (sym e) ∙ h);
      below = λ h. stays-below t.shape (ap all_below (sym e) ∙ h);
    }
