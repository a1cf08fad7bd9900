-- The tests that names stand for, over a sheet.
use Rattle.std.specs.Prelude.{ℕ, Bool, ◌&&◌, List, length, nat_lt}
use Rattle.sheet.specs.declared.rows.Face.{Face}
use Rattle.motion.specs.declared.shapes.Kind.TheVariants.{Vf, Ee}
use Rattle.motion.specs.declared.shapes.Shape.{Shape}
use Rattle.inspection.specs.declared.names.VfName.{VfName}
use Rattle.inspection.specs.declared.names.EeName.{EeName}
use Rattle.inspection.specs.Names.{is_corner, ee_shared, vf_same, ee_same}
use Rattle.inspection.specs.Pairs.{vf_tests, ee_tests}
use Rattle.inspection.specs.Offerings.{Offering, Faces}
use Rattle.inspection.specs.Sheets.{Sheet, point_at, face_at}

-- the tests, at scale 0
abbrev pub vf_shape : Sheet → VfName → Shape
vf_shape s n =
    record {
      kind = Vf;
      p = point_at s n.point;
      a = point_at s (face_at s n.face).a;
      b = point_at s (face_at s n.face).b;
      c = point_at s (face_at s n.face).c;
      scale = 0;
    }

abbrev pub ee_shape : Sheet → EeName → Shape
ee_shape s n =
    record {
      kind = Ee;
      p = point_at s n.l;
      a = point_at s n.k;
      b = point_at s n.u;
      c = point_at s n.v;
      scale = 0;
    }

abbrev pub vf_shared : Sheet → VfName → Bool
vf_shared s n = is_corner n.point (face_at s n.face)

-- ---- numbers of the sheet
-- each corner is one of so many points
abbrev pub corners_below : ℕ → Face → Bool
corners_below n f = nat_lt f.a n && nat_lt f.b n && nat_lt f.c n

abbrev pub corners_inside : Sheet → Face → Bool
corners_inside s f = corners_below (length s.points) f

-- its point, its face number and the corners of that face
abbrev pub vf_inside : Sheet → VfName → Bool
vf_inside s n =
    nat_lt n.point (length s.points) && nat_lt n.face (length s.faces)
    && corners_inside s (face_at s n.face)

abbrev pub ee_inside : Sheet → EeName → Bool
ee_inside s e =
    let n = length s.points in nat_lt e.u n && nat_lt e.v n && nat_lt e.k n && nat_lt e.l n

-- ---- the two kinds of tests, by their names
pub record Naming (E : Type 0) : Type 0 where
  -- those of an offer, in their order
  pub tests : Sheet → Offering → List E
  -- its numbers are of the sheet
  pub inside : Sheet → E → Bool
  -- its features have a point in common
  pub shared : Sheet → E → Bool
  pub shape : Sheet → E → Shape
  pub same : E → E → Bool

abbrev pub vf_tests_of : Sheet → Offering → List VfName
vf_tests_of s (Faces f g) = vf_tests f (face_at s f) g (face_at s g)

abbrev pub ee_tests_of : Sheet → Offering → List EeName
ee_tests_of s (Faces f g) = ee_tests (face_at s f) (face_at s g)

abbrev pub vf_naming : Naming VfName
vf_naming =
    record {
      tests = vf_tests_of;
      inside = vf_inside;
      shared = vf_shared;
      shape = vf_shape;
      same = vf_same;
    }

abbrev pub ee_naming : Naming EeName
ee_naming =
    record {
      tests = ee_tests_of;
      inside = ee_inside;
      shared = λ s n. ee_shared n;
      shape = ee_shape;
      same = ee_same;
    }
