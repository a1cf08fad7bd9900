-- What the names of both kinds of tests have in common.
use Rattle.std.proofs.Common.{◌≡◌, ℕ, ◌<◌, true, false, count_by, List, [], ◌∷◌, ◌++◌, get_or, Contains, lit<, refl, ◌∙◌, subst₂, ⊎_elim, arith}
use Rattle.std.specs.Cmp.{IsEquivalence}
use Rattle.std.specs.List.{AllByRecursion}
use Rattle.std.proofs.lemmas.Bool.Decides.{nat_tests}
use Rattle.std.proofs.lemmas.List.Elements.{All-from_recursion, All-contains, Contains-append_left, Contains-append_right, Contains-append_cases}
use Rattle.motion.specs.Laws.{Valid, InReach}
use Rattle.inspection.specs.declared.names.VfName.{VfName}
use Rattle.inspection.specs.declared.names.EeName.{EeName}
use Rattle.inspection.specs.declared.names.Edge.{Edge}
use Rattle.inspection.specs.Names.{edge_of, ee_shared, ee_name_of, vf_same_equiv, ee_same_equiv}
use Rattle.inspection.specs.Offerings.{Offering, Faces, SameOffering}
use Rattle.inspection.specs.Pairs.{corners_against, edges_against}
use Rattle.inspection.specs.Sheets.{Sheet, point_at, face_at}
use Rattle.inspection.specs.Tests.{Naming, vf_naming, ee_naming}

-- each offer having so many of them
pub record NamingLaws {E : Type 0} (n : Naming E) (each : ℕ) (sheet : Sheet) : Type 0 where
  pub equivalence : IsEquivalence n.same
  pub scale : (x : E) → (n.shape sheet x).scale ≡ 0
  pub valid : ((k : ℕ) → InReach 0 (point_at sheet k)) → (x : E) → Valid (n.shape sheet x)
  pub many : (o : Offering) → count_by (λ e. true) (n.tests sheet o) ≡ each
  -- two faces have the same tests the other way round
  pub turned : (f g : ℕ) (x : E) → Contains (n.tests sheet (Faces f g)) x → n.shared sheet x ≡ false → Contains (n.tests sheet (Faces g f)) x

-- what is alike has the same tests
pub alike : {E : Type 0} (n : Naming E) (each : ℕ) (sheet : Sheet) → NamingLaws n each sheet → (o p : Offering) → SameOffering o p → (x : E)
    → Contains (n.tests sheet o) x → n.shared sheet x ≡ false → Contains (n.tests sheet p) x
alike n each sheet laws (Faces f g) (Faces k l) same x c u =
    let has = λ (f g : ℕ). Contains (n.tests sheet (Faces f g)) x in
    ⊎_elim (λ (y, z). subst₂ has y z c) (λ (y, z). subst₂ has z y (laws.turned f g x c u)) same

-- ---- of a point against a face
vf-many : (sheet : Sheet) (o : Offering) → count_by (λ e. true) (vf_naming.tests sheet o) ≡ 6
vf-many sheet (Faces f g) = refl

pub vf_laws : (sheet : Sheet) → NamingLaws vf_naming 6 sheet
vf_laws sheet =
    record {
      equivalence = vf_same_equiv;
      scale = λ x. refl;
      valid = λ r x. let f = face_at sheet x.face in (omega arith, r x.point, r f.a, r f.b, r f.c);
      many = vf-many sheet;
      turned = λ f g x c u. halves x (corners_against (face_at sheet f) g) (corners_against (face_at sheet g) f) c;
    }
  where
    halves : (x : VfName) (xs ys : List VfName) → Contains (xs ++ ys) x → Contains (ys ++ xs) x
    halves x xs ys c = ⊎_elim (Contains-append_right ys xs x) (Contains-append_left ys xs x) (Contains-append_cases xs ys x c)

-- ---- of an edge against an edge
-- that with the lower first number comes first; where both have the same, the test is shared
swapped : (e f : Edge) → ee_shared (ee_name_of e f) ≡ false → ee_name_of f e ≡ ee_name_of e f
swapped e f u = grind (arith, nat_tests)

-- three edges against three, and the other way round
module _ (a b c p q r : Edge) where
  abbrev three : List Edge
  three = p ∷ q ∷ r ∷ []

  abbrev turned : List EeName
  turned = edges_against three (a ∷ b ∷ c ∷ [])

  abbrev Turned : EeName → Type 0
  Turned x = ee_shared x ≡ false → Contains turned x

  at : (k : ℕ) (e f : Edge) → k < 9 → get_or turned k (ee_name_of e f) ≡ ee_name_of f e → Turned (ee_name_of e f)
  at k e f h is u = (k, h, is ∙ swapped e f u)

  edges-turned : (x : EeName) → Contains (edges_against (a ∷ b ∷ c ∷ []) three) x → Turned x
  edges-turned x =
      let last : AllByRecursion Turned (edges_against (c ∷ []) three) = (at 2 c p (lit< tt) refl, (at 5 c q (lit< tt) refl, (at 8 c r (lit< tt) refl, tt))) in
      let more : AllByRecursion Turned (edges_against (b ∷ c ∷ []) three) = (at 1 b p (lit< tt) refl, (at 4 b q (lit< tt) refl, (at 7 b r (lit< tt) refl, last))) in
      let all : AllByRecursion Turned (edges_against (a ∷ b ∷ c ∷ []) three) = (at 0 a p (lit< tt) refl, (at 3 a q (lit< tt) refl, (at 6 a r (lit< tt) refl, more))) in
      All-contains Turned (edges_against (a ∷ b ∷ c ∷ []) three) x (All-from_recursion Turned (edges_against (a ∷ b ∷ c ∷ []) three) all)

ee-many : (sheet : Sheet) (o : Offering) → count_by (λ e. true) (ee_naming.tests sheet o) ≡ 9
ee-many sheet (Faces f g) = refl

pub ee_laws : (sheet : Sheet) → NamingLaws ee_naming 9 sheet
ee_laws sheet =
    record {
      equivalence = ee_same_equiv;
      scale = λ x. refl;
      valid = λ r x. (omega arith, r x.l, r x.k, r x.u, r x.v);
      many = ee-many sheet;
      turned = λ f g x.
          let m = face_at sheet f in
          let n = face_at sheet g in
          edges-turned (edge_of m.a m.b) (edge_of m.b m.c) (edge_of m.c m.a) (edge_of n.a n.b) (edge_of n.b n.c) (edge_of n.c n.a) x;
    }
