-- Offered all, the near pairs cover the whole sheet: faces whose boxes do not meet stay apart.
use Rattle.std.proofs.Common.{◌≡◌, ℕ, Bool, false, List, [], take, ◌∙◌, All, Contains, ◌∷◌, ◌++◌, flat_map, sym}
use Rattle.std.specs.Prelude.{IsFalse, Any}
use Rattle.std.proofs.lemmas.Bool.{or_parts}
use Rattle.std.proofs.lemmas.List.Elements.{All-weaker, All-contains, All-contains_itself, All-nil, All-append, All-head, All-tail}
use Rattle.std.proofs.lemmas.List.Folds.{list_any-append}
use Rattle.sheet.specs.declared.drafts.Draft.{Draft}
use Rattle.sheet.specs.declared.rows.Point.{Point}
use Rattle.sheet.specs.declared.rows.Face.{Face}
use Rattle.motion.specs.declared.shapes.Shape.{Shape}
use Rattle.motion.specs.Laws.{InReach, Apart}
use Rattle.motion.proofs.BoxLaws.{box-lawful}
use Rattle.inspection.specs.declared.names.VfName.{VfName}
use Rattle.inspection.specs.declared.names.EeName.{EeName}
use Rattle.inspection.specs.declared.offerings.Offering.{Offering}
use Rattle.inspection.specs.declared.offerings.Offering.TheVariants.{Faces}
use Rattle.inspection.specs.Claims.{Claim}
use Rattle.inspection.specs.Lists.{has}
use Rattle.inspection.specs.Offerings.{SameOffering}
use Rattle.inspection.specs.Runs.{Accepted}
use Rattle.inspection.specs.Sheets.{Sheet, point_at, face_at, sheet_in}
use Rattle.inspection.specs.States.{Core}
use Rattle.inspection.specs.Tests.{Naming, vf_naming, ee_naming}
use Rattle.inspection.proofs.NamingLaws.{NamingLaws, alike, vf_laws, ee_laws}
use Rattle.inspection.proofs.Claiming.{claim}
use Rattle.inspection.proofs.Coordinates.{points_near}
use Rattle.near_faces.specs.Boxes.{corners, swept_box, meets}
use Rattle.near_faces.specs.Near.{near_pairs}
use Rattle.near_faces.specs.Covering.{AllApart, WholeSheetApart, HasAll, FarApart, Inspected, IsLeft, CoversSheet}
use Rattle.near_faces.specs.Covering.IsLeft.{ran, claimed}
use Rattle.near_faces.specs.declared.pairs.Pair.{Pair}
use Rattle.near_faces.proofs.EachTwo.{each_two}
use Rattle.near_faces.proofs.FarApart.{IsBetween, TestsBetween, struck_between, vf_between, ee_between}

-- ---- two faces whose boxes do not meet: Box strikes each of their tests
module _ {E : Type 0} (n : Naming E) (each : ℕ) (s : Sheet) (laws : NamingLaws n each s) (between : TestsBetween n s) (reach : (k : ℕ) → InReach 0 (point_at s k)) where
  abbrev boxes_meet : ℕ → ℕ → Bool
  boxes_meet f g = meets (swept_box s (face_at s f)) (swept_box s (face_at s g))

  far_apart : (f g : ℕ) → boxes_meet f g ≡ false → All (λ e. Apart (n.shape s e)) (n.tests s (Faces f g))
  far_apart f g h =
      All-weaker (IsBetween n s f g) (λ e. Apart (n.shape s e))
      (λ e b. box-lawful.apart (n.shape s e) (laws.valid reach e) (struck_between (corners s (face_at s f)) (corners s (face_at s g)) (n.shape s e) b h))
      (n.tests s (Faces f g)) (between f g)

  -- ---- what is listed of the tests of one kind
  module _ (es : List E) where
    abbrev Stays : E → Type 0
    Stays e = IsFalse (n.shared s e) → IsFalse (has n.same e es) → Apart (n.shape s e)

    abbrev AllStay : Offering → Type 0
    AllStay o = All Stays (n.tests s o)

    -- two faces have the same tests in either order
    alike_stay : (o p : Offering) → SameOffering o p → AllStay p → AllStay o
    alike_stay o p same all =
        All-weaker (Contains (n.tests s o)) Stays (λ e c u. All-contains Stays (n.tests s p) e all (alike n each s laws o p same e c u) u) (n.tests s o) (All-contains_itself (n.tests s o))

    far : (f g : ℕ) → boxes_meet f g ≡ false → AllStay (Faces f g)
    far f g h = All-weaker (λ e. Apart (n.shape s e)) Stays (λ e a u l. a) (n.tests s (Faces f g)) (far_apart f g h)

    module _ (history : List Accepted) (accepted : All (λ o. AllStay o.what) history) (has_all : HasAll (near_pairs s) history) where
      -- the near pairs were accepted
      near : All (λ (p : Pair). AllStay (Faces p.first p.second)) (near_pairs s)
      near =
          All-weaker (λ (p : Pair). Any (λ o. SameOffering (Faces p.first p.second) o.what) history) (λ (p : Pair). AllStay (Faces p.first p.second))
          (λ p (k, o, here, is, same). alike_stay (Faces p.first p.second) o.what same (All-contains (λ o. AllStay o.what) history o accepted (k, here, is))) (near_pairs s) has_all

      all_apart : AllApart n s es
      all_apart = each_two s AllStay alike_stay (λ f g hf hg apart. far f g apart) near

-- ---- what is listed of one kind, after several inspections
module _ {E : Type 0} (n : Naming E) (s : Sheet) where
  abbrev Stay : List E → Accepted → Type 0
  Stay es o = All (λ e. IsFalse (n.shared s e) → IsFalse (has n.same e es) → Apart (n.shape s e)) (n.tests s o.what)

  -- also with more entries
  with_more : (es fs : List E) → ((e : E) → has n.same e fs ≡ false → has n.same e es ≡ false) → (h : List Accepted) → All (Stay es) h → All (Stay fs) h
  with_more es fs more h all =
      All-weaker (Stay es) (Stay fs)
      (λ o stay. All-weaker (λ e. IsFalse (n.shared s e) → IsFalse (has n.same e es) → Apart (n.shape s e)) (λ e. IsFalse (n.shared s e) → IsFalse (has n.same e fs) → Apart (n.shape s e))
      (λ e keep u l. keep u (more e l)) (n.tests s o.what) stay)
      h all

  all_stay : (f : Inspected → List E) (xs : List Inspected) → All (λ x. All (Stay (f x)) x.history) xs → All (Stay (flat_map f xs)) (flat_map (λ x. x.history) xs)
  all_stay f [] all = All-nil (Stay [])
  all_stay f (x ∷ xs) all =
      let each = λ (x : Inspected). All (Stay (f x)) x.history in
      let es : List E = f x in
      let rest : List E = flat_map f xs in
      let both = λ (e : E) (l : has n.same e (es ++ rest) ≡ false). or_parts (has n.same e es) (has n.same e rest) (sym (list_any-append (n.same e) es rest) ∙ l) in
      All-append (Stay (es ++ rest)) x.history (flat_map (λ x. x.history) xs)
      (with_more es (es ++ rest) (λ e l. (both e l).0) x.history (All-head each x xs all))
      (with_more rest (es ++ rest) (λ e l. (both e l).1) (flat_map (λ x. x.history) xs) (all_stay f xs (All-tail each x xs all)))

-- what a run leaves can be claimed of it
vf_stays : (d : Draft) (s : Sheet) (x : Inspected) → IsLeft d s x → All (Stay vf_naming s x.vf) x.history
vf_stays d s x (ran set law history out t run) = (claim law d s history out t run).claim.vf.apart
vf_stays d s x (claimed set core c) = c.vf.apart

ee_stays : (d : Draft) (s : Sheet) (x : Inspected) → IsLeft d s x → All (Stay ee_naming s x.ee) x.history
ee_stays d s x (ran set law history out t run) = (claim law d s history out t run).claim.ee.apart
ee_stays d s x (claimed set core c) = c.ee.apart

-- ---- of both
module _ (s : Sheet) (reach : (k : ℕ) → InReach 0 (point_at s k)) where
  far_ones : FarApart s
  far_ones =
      record {
        vf = λ f g hf hg h. far_apart vf_naming 6 s (vf_laws s) (vf_between s) reach f g h;
        ee = λ f g hf hg h. far_apart ee_naming 9 s (ee_laws s) (ee_between s) reach f g h;
      }

  whole_sheet : (set : Shape → Bool) (d : Draft) (history : List Accepted) (core : Core) (vfs : List VfName) (ees : List EeName) → Claim set d s history core vfs ees → HasAll (near_pairs s) history
      → WholeSheetApart s vfs ees
  whole_sheet set d history core vfs ees c has_all =
      record {
        vf = all_apart vf_naming 6 s (vf_laws s) (vf_between s) reach vfs history c.vf.apart has_all;
        ee = all_apart ee_naming 9 s (ee_laws s) (ee_between s) reach ees history c.ee.apart has_all;
      }

  by_several : (d : Draft) (xs : List Inspected) → All (IsLeft d s) xs → HasAll (near_pairs s) (flat_map (λ x. x.history) xs)
      → WholeSheetApart s (flat_map (λ x. x.vf) xs) (flat_map (λ x. x.ee) xs)
  by_several d xs all has_all =
      let history : List Accepted = flat_map (λ x. x.history) xs in
      let vf = all_stay vf_naming s (λ x. x.vf) xs (All-weaker (IsLeft d s) (λ x. All (Stay vf_naming s x.vf) x.history) (vf_stays d s) xs all) in
      let ee = all_stay ee_naming s (λ x. x.ee) xs (All-weaker (IsLeft d s) (λ x. All (Stay ee_naming s x.ee) x.history) (ee_stays d s) xs all) in
      record {
        vf = all_apart vf_naming 6 s (vf_laws s) (vf_between s) reach (flat_map (λ x. x.vf) xs) history vf has_all;
        ee = all_apart ee_naming 9 s (ee_laws s) (ee_between s) reach (flat_map (λ x. x.ee) xs) history ee has_all;
      }

pub covering : (d : Draft) (ps : List Point) (fs : List Face) → CoversSheet d (sheet_in d ps fs) (near_pairs (sheet_in d ps fs))
covering d ps fs =
    let s = sheet_in d ps fs in
    let reach = points_near (take d.points ps) (take d.faces fs) in
    record {
      runs = λ set law history out t run has_all. whole_sheet s reach set d history t.core t.lists.vf.entries t.lists.ee.entries (claim law d s history out t run).claim has_all;
      claims = λ set history core vfs ees c has_all. whole_sheet s reach set d history core vfs ees c has_all;
      several = by_several s reach d;
      far = far_ones s reach;
    }
