-- Tests of faces of a sheet have numbers of the sheet, and so has what is listed of them.
use Rattle.std.proofs.Common.{◌≡◌, ℕ, ◌<◌, true, IsTrue, List, [], ◌∷◌, All, length, arith}
use Rattle.std.proofs.lemmas.Bool.Decides.{nat_tests}
use Rattle.std.proofs.lemmas.List.Elements.{All-from_recursion, All-push, All-head, All-tail}
use Rattle.sheet.specs.declared.rows.Face.{Face}
use Rattle.inspection.specs.declared.classes.Class.{Class}
use Rattle.inspection.specs.declared.classes.Class.TheVariants.{Kept, Struck, Shared, Repeated}
use Rattle.inspection.specs.declared.names.VfName.{VfName}
use Rattle.inspection.specs.declared.names.EeName.{EeName}
use Rattle.inspection.specs.Classes.{Rules, class_of, entries_after_one, entries_after}
use Rattle.inspection.specs.Names.{edge_of, ee_name_of}
use Rattle.inspection.specs.Offerings.{Faces}
use Rattle.inspection.specs.Sheets.{Sheet, face_at}
use Rattle.inspection.specs.Tests.{corners_inside, vf_inside, ee_inside, vf_tests_of, ee_tests_of}

-- what holds of each entry and of each test holds of each entry after them
module _ {E : Type 0} (r : Rules E) (P : E → Type 0) where
  after_one : (k : Class) (es : List E) (e : E) → All P es → P e → All P (entries_after_one k es e)
  after_one Kept es e all p = All-push P es e all p
  after_one Struck es e all p = all
  after_one Shared es e all p = all
  after_one Repeated es e all p = all

  pub after_all : (es tests : List E) → All P es → All P tests → All P (entries_after r es tests)
  after_all es [] all new = all
  after_all es (e ∷ tests) all new =
      after_all (entries_after_one (class_of r es e) es e) tests (after_one (class_of r es e) es e all (All-head P e tests new)) (All-tail P e tests new)

-- ---- the tests of two faces of the sheet
module _ (s : Sheet) where
  abbrev pub VfIn : VfName → Type 0
  VfIn e = IsTrue (vf_inside s e)

  abbrev pub EeIn : EeName → Type 0
  EeIn e = IsTrue (ee_inside s e)

  -- a corner of a face against a face
  corner : (p n : ℕ) → p < length s.points → n < length s.faces → corners_inside s (face_at s n) ≡ true → VfIn (record { point = p; face = n })
  corner p n hp hn c = grind (arith, nat_tests)

  record Corners (f : Face) : Type 0 where
    a : f.a < length s.points
    b : f.b < length s.points
    c : f.c < length s.points

  corners : (f : Face) → corners_inside s f ≡ true → Corners f
  corners f e = record { a = grind (arith, nat_tests); b = grind (arith, nat_tests); c = grind (arith, nat_tests) }

  -- an edge of a face against an edge
  named : (a b c d : ℕ) → a < length s.points → b < length s.points → c < length s.points → d < length s.points → EeIn (ee_name_of (edge_of a b) (edge_of c d))
  named a b c d ha hb hc hd = grind (arith, nat_tests)

  -- two faces with these numbers, of the sheet and with their corners among its points
  module _ (f g : ℕ) (hf : f < length s.faces) (hg : g < length s.faces) (cf : corners_inside s (face_at s f) ≡ true) (cg : corners_inside s (face_at s g) ≡ true) where
    pub vf_in : All VfIn (vf_tests_of s (Faces f g))
    vf_in =
        let m = face_at s f in
        let n = face_at s g in
        let p = corners m cf in
        let q = corners n cg in
        All-from_recursion VfIn (vf_tests_of s (Faces f g))
        (corner m.a g p.a hg cg, (corner m.b g p.b hg cg, (corner m.c g p.c hg cg, (corner n.a f q.a hf cf, (corner n.b f q.b hf cf, (corner n.c f q.c hf cf, tt))))))

    pub ee_in : All EeIn (ee_tests_of s (Faces f g))
    ee_in =
        let m = face_at s f in
        let n = face_at s g in
        let p = corners m cf in
        let q = corners n cg in
        let one = λ (a b : ℕ) (ha : a < length s.points) (hb : b < length s.points). named a b n.a n.b ha hb q.a q.b in
        let two = λ (a b : ℕ) (ha : a < length s.points) (hb : b < length s.points). named a b n.b n.c ha hb q.b q.c in
        let three = λ (a b : ℕ) (ha : a < length s.points) (hb : b < length s.points). named a b n.c n.a ha hb q.c q.a in
        All-from_recursion EeIn (ee_tests_of s (Faces f g))
        (one m.a m.b p.a p.b, (two m.a m.b p.a p.b, (three m.a m.b p.a p.b, (one m.b m.c p.b p.c, (two m.b m.c p.b p.c, (three m.b m.c p.b p.c, (one m.c m.a p.c p.a, (two m.c m.a p.c p.a, (three m.c m.a p.c p.a, tt)))))))))
