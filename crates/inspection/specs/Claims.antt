-- The claim: what a run's lists and counts say of every test that its accepted offers hold, and
-- beside it of another claim over the same sheet.
use Rattle.std.specs.Prelude.{◌≡◌, ◌⊎◌, ◌↔◌, ℕ, ◌+◌, ◌*◌, ◌<◌, ◌≤◌, Bool, IsTrue, IsFalse, not, ◌&&◌, List, All, Any, AllPairs, length, count_by, Some, slice_get}
use Rattle.std.specs.List.{sum_by}
use Rattle.sheet.specs.declared.drafts.Draft.{Draft}
use Rattle.motion.specs.declared.shapes.Shape.{Shape}
use Rattle.motion.specs.Laws.{Valid, Apart}
use Rattle.motion.specs.Depths.{struck_at}
use Rattle.inspection.specs.declared.classes.Tally.{Tally}
use Rattle.motion.specs.declared.shapes.Kind.TheVariants.{Vf, Ee}
use Rattle.inspection.specs.declared.names.VfName.{VfName}
use Rattle.inspection.specs.declared.names.EeName.{EeName}
use Rattle.inspection.specs.declared.slips.Slip.{Slip}
use Rattle.inspection.specs.Tallies.{tests_counted, tally_in}
use Rattle.inspection.specs.Offerings.{Offering, Faces, SameOffering}
use Rattle.inspection.specs.Sheets.{Sheet, face_at}
use Rattle.inspection.specs.Tests.{Naming, vf_naming, ee_naming, corners_inside}
use Rattle.inspection.specs.Lists.{has}
use Rattle.inspection.specs.States.{Core, State}
use Rattle.inspection.specs.Runs.{Accepted, Run}

-- by offer, then in the order of an offer's tests
abbrev pub StandsBefore : ℕ → ℕ → ℕ → ℕ → Type 0
StandsBefore i j k l = (i < k) ⊎ ((i ≡ k) × (j < l))

-- of the tests of one kind that the accepted offers hold, how many there are of which p holds
abbrev pub how_many : {E : Type 0} → Naming E → Sheet → List Accepted → (Accepted → E → Bool) → ℕ
how_many n sheet history p = sum_by (λ o. count_by (p o) (n.tests sheet o.what)) history

-- of the tests of one kind, by a filter's set over a sheet, and these accepted offers
module _
    {E : Type 0} (n : Naming E) (set : Shape → Bool) (sheet : Sheet) (history : List Accepted) where
  -- the accepted offer with number i has the test e as number j; it is not shared
  -- and the offer passed it at the depth then set
  pub record PassedAt (e : E) (i j : ℕ) : Type 0 where
    pub offer : Accepted
    pub test : E
    pub accepted : slice_get history i ≡ Some offer
    pub holds : slice_get (n.tests sheet offer.what) j ≡ Some test
    pub same : IsTrue (n.same e test)
    pub unshared : IsFalse (n.shared sheet test)
    pub passed : IsFalse (struck_at set offer.depth (n.shape sheet test))

  -- x was passed before y ever was
  abbrev pub PassedBefore : E → E → Type 0
  PassedBefore x y =
      (i : ℕ) × ((j : ℕ)
      × (PassedAt x i j × ((k l : ℕ) → PassedAt y k l → StandsBefore i j k l)))

  -- how they are counted: each in one class
  pub record CountsOfKind (es : List E) (t : Tally) : Type 0 where
    pub shared : t.shared ≡ how_many n sheet history (λ o e. n.shared sheet e)
    pub struck : t.struck ≡ how_many n sheet history
        (λ o e. not (n.shared sheet e) && struck_at set o.depth (n.shape sheet e))
    -- what is neither is kept, or repeated; what is kept is listed
    pub passed : t.kept + t.repeated ≡ how_many n sheet history
        (λ o e. not (n.shared sheet e) && not (struck_at set o.depth (n.shape sheet e)))
    pub kept : t.kept ≡ length es

  -- what their list and their tally say, an offer having so many of them
  pub record ClaimOfKind (each : ℕ) (es : List E) (t : Tally) : Type 0 where
    -- what an accepted offer holds, is not shared and is not listed stays apart for the whole step
    pub apart : All (λ o. All (λ e. IsFalse (n.shared sheet e) → IsFalse (has n.same e es)
        → Apart (n.shape sheet e)) (n.tests sheet o.what)) history
    -- a test is listed exactly when some accepted offer passed it
    pub listed : (e : E) → IsTrue (has n.same e es) ↔ ((i : ℕ) × ((j : ℕ) × PassedAt e i j))
    -- it stands there a single time
    pub once : AllPairs (λ x y. IsFalse (n.same x y)) es
    -- the entries stand in the order of first passing
    pub order : AllPairs PassedBefore es
    -- each test is counted
    pub classes : tests_counted t ≡ each * length history
    pub counts : CountsOfKind es t

-- two sets that agree on every test
abbrev pub Agree : (Shape → Bool) → (Shape → Bool) → Type 0
Agree set set' = (t : Shape) → Valid t → set' t ≡ set t

-- each accepted offer of the other history has the same one here, at an equal or smaller depth
abbrev pub MatchesOffers : List Accepted → List Accepted → Type 0
MatchesOffers history other =
    All (λ o. Any (λ p. SameOffering o.what p.what × (p.depth ≤ o.depth)) history) other

abbrev pub Covers : {E : Type 0} → (E → E → Bool) → List E → List E → Type 0
Covers {E} same es others = (e : E) → IsTrue (has same e others) → IsTrue (has same e es)

-- two different faces of the sheet, with their corners among its points
pub record AreOfSheet (sheet : Sheet) (f g : ℕ) : Type 0 where
  pub first : f < length sheet.faces
  pub second : g < length sheet.faces
  pub two : ¬ (f ≡ g)
  pub first_corners : IsTrue (corners_inside sheet (face_at sheet f))
  pub second_corners : IsTrue (corners_inside sheet (face_at sheet g))

abbrev pub OfSheet : Sheet → Offering → Type 0
OfSheet sheet (Faces f g) = AreOfSheet sheet f g

-- of a run with these accepted offers: what the inspection itself and the names on its two lists
-- say at the end
pub record Claim
    (set : Shape → Bool) (d : Draft) (sheet : Sheet) (history : List Accepted)
    (core : Core) (vfs : List VfName) (ees : List EeName) : Type 0 where
  pub draft : core.draft ≡ d
  pub vf : ClaimOfKind vf_naming set sheet history 6 vfs (tally_in Vf core.tallies)
  pub ee : ClaimOfKind ee_naming set sheet history 9 ees (tally_in Ee core.tallies)
  pub of_sheet : All (λ o. OfSheet sheet o.what) history
  pub depths : All (λ o. o.depth ≤ 6) history
  pub offers : core.accepted ≡ length history

-- the claim, and what stands beside it
pub record WholeClaim
    (set : Shape → Bool) (d : Draft) (sheet : Sheet) (history : List Accepted)
    (core : Core) (vfs : List VfName) (ees : List EeName) : Type 0 where
  pub claim : Claim set d sheet history core vfs ees
  -- another claim over the same sheet, of any draft, by a set that agrees, lists nothing that is
  -- lacking here, where its offers were accepted here
  pub again : (set' : Shape → Bool) → Agree set set'
      → (d' : Draft) (other : List Accepted) (core' : Core) (vfs' : List VfName) (ees' : List EeName)
      → Claim set' d' sheet other core' vfs' ees' → MatchesOffers history other
      → Covers vf_naming.same vfs vfs' × Covers ee_naming.same ees ees'

-- what every run that ends in this state has found
abbrev pub Findings : (Shape → Bool) → State → Type 0
Findings set s =
    (d : Draft) (sheet : Sheet) (history : List Accepted) (out : List Slip)
    → Run set d sheet history out s
    → WholeClaim set d sheet history s.core s.lists.vf.entries s.lists.ee.entries
