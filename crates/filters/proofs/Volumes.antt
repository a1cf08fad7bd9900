-- The vectors of Plane and the size of its control values.
use Rattle.std.proofs.Common.{◌≡◌, ◌*◌, ◌^◌, ℤ, pos, sym, ◌∙◌, subst, arith, w64, to_z, of_z}
use Rattle.motion.specs.declared.shapes.V3.{V3}
use Rattle.motion.specs.declared.shapes.Shape.{Shape}
use Rattle.motion.specs.declared.shapes.Controls.{Controls}
use Rattle.motion.specs.Vectors.{dot}
use Rattle.motion.specs.Laws.{Valid, Within}
use Rattle.motion.specs.Plane.{n0, n1, velocity_normal, controls}
use Rattle.motion.proofs.Determinants.{Triple, det, at_start, at_end, controls-are}
use Rattle.filters.specs.Reaching.{Small}
use Rattle.filters.specs.inner.Bounds.{Bounded, Reach}
use Rattle.filters.proofs.Exact.{Exact, called, near-add, near-mul}
use Rattle.filters.proofs.Reaches.{minus-reach, cross-reach, dot-near, in-reach}

three : Bounded 3 (pos 3)
three = record { size = omega arith }

-- ---- products of the factors, as the code has them
module _ {d n : V3} {r : ℤ} (e : r ≡ dot d n) (p : Reach (2 ^ 19) d) where
  pub volume : Reach (2 ^ 39) n → Exact (3 * 2 ^ 58) (dot d n) (to_z w64 (of_z w64 r))
  volume q = called e (dot-near p q) tt

  -- with the normal between, which is longer
  pub mixed-volume : Reach (3 * 2 ^ 40) n → Exact (9 * 2 ^ 59) (dot d n) (to_z w64 (of_z w64 r))
  mixed-volume q = called e (dot-near p q) tt

det-near : {a b c : V3} → Reach (2 ^ 19) a → Reach (2 ^ 19) b → Reach (2 ^ 19) c → Bounded (3 * 2 ^ 58) (det a b c)
det-near p q r = dot-near p (cross-reach q r)

record Short (s : Triple) : Type 0 where
  u : Reach (2 ^ 19) s.u
  v : Reach (2 ^ 19) s.v
  w : Reach (2 ^ 19) s.w

module _ (t : Shape) (v : Valid t) where
  pub near : (w : V3) → Within (4096 * 2 ^ t.scale) w → Reach (2 ^ 18) w
  near w h = in-reach t.scale w v.0 h

  start : Short (at_start t)
  start =
      let a = near t.a.start v.2.0 in
      record { u = minus-reach (near t.p.start v.1.0) a; v = minus-reach (near t.b.start v.3.0) a; w = minus-reach (near t.c.start v.4.0) a }

  end : Short (at_end t)
  end =
      let a = near t.a.end v.2.1 in
      record { u = minus-reach (near t.p.end v.1.1) a; v = minus-reach (near t.b.end v.3.1) a; w = minus-reach (near t.c.end v.4.1) a }

  -- ---- the normals
  pub n0-reach : Reach (2 ^ 39) (n0 t)
  n0-reach = cross-reach start.v start.w

  pub n1-reach : Reach (2 ^ 39) (n1 t)
  n1-reach = cross-reach end.v end.w

  pub velocity-normal-reach : Reach (2 ^ 41) (velocity_normal t)
  velocity-normal-reach =
      let a = minus-reach (near t.a.end v.2.1) (near t.a.start v.2.0) in
      let b = minus-reach (near t.b.end v.3.1) (near t.b.start v.3.0) in
      let c = minus-reach (near t.c.end v.4.1) (near t.c.start v.4.0) in cross-reach (minus-reach b a) (minus-reach c a)

  -- ---- the control values, as determinants
  pub small : (g : Controls) → g ≡ controls t → Small g
  small g e =
      let p = start in
      let q = end in
      subst Small (sym (e ∙ controls-are t))
      record {
        g0 = (near-mul three (det-near p.u p.v p.w)).size;
        g1 = (near-add (near-add (det-near p.u q.v p.w) (det-near p.u p.v q.w)) (det-near q.u p.v p.w)).size;
        g2 = (near-add (near-add (det-near q.u q.v p.w) (det-near q.u p.v q.w)) (det-near p.u q.v q.w)).size;
        g3 = (near-mul three (det-near q.u q.v q.w)).size;
      }
