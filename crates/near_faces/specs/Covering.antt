-- What the near pairs are for: offered all, they cover the whole sheet.
use Rattle.std.specs.Prelude.{◌≡◌, ℕ, ◌<◌, Bool, IsFalse, List, All, Any, flat_map, length}
use Rattle.sheet.specs.declared.drafts.Draft.{Draft}
use Rattle.motion.specs.declared.shapes.Shape.{Shape}
use Rattle.motion.specs.Laws.{Lawful, Apart}
use Rattle.inspection.specs.declared.names.VfName.{VfName}
use Rattle.inspection.specs.declared.names.EeName.{EeName}
use Rattle.inspection.specs.Claims.{Claim}
use Rattle.inspection.specs.Lists.{has}
use Rattle.inspection.specs.Offerings.{SameOffering}
use Rattle.inspection.specs.declared.offerings.Offering.TheVariants.{Faces}
use Rattle.inspection.specs.declared.slips.Slip.{Slip}
use Rattle.inspection.specs.Runs.{Accepted, Run}
use Rattle.inspection.specs.Sheets.{Sheet, face_at}
use Rattle.inspection.specs.States.{Core, State}
use Rattle.inspection.specs.Tests.{Naming, vf_naming, ee_naming}
use Rattle.near_faces.specs.declared.pairs.Pair.{Pair}
use Rattle.near_faces.specs.Boxes.{meets, swept_box}

-- of every two different faces, near or far, what has no point in common and is not listed stays
-- apart for the whole step
abbrev pub AllApart : {E : Type 0} → Naming E → Sheet → List E → Type 0
AllApart n s es =
    (f g : ℕ) → f < length s.faces → g < length s.faces → ¬ (f ≡ g)
    → All (λ e. IsFalse (n.shared s e) → IsFalse (has n.same e es) → Apart (n.shape s e))
    (n.tests s (Faces f g))

pub record WholeSheetApart (s : Sheet) (vfs : List VfName) (ees : List EeName) : Type 0 where
  pub vf : AllApart vf_naming s vfs
  pub ee : AllApart ee_naming s ees

-- the accepted offers have each of these pairs, in either order
abbrev pub HasAll : List Pair → List Accepted → Type 0
HasAll ps history =
    All (λ p. Any (λ o. SameOffering (Faces p.first p.second) o.what) history) ps

-- of every two faces whose boxes do not meet each test stays apart, whatever was offered
abbrev pub AllFarApart : {E : Type 0} → Naming E → Sheet → Type 0
AllFarApart n s =
    (f g : ℕ) → f < length s.faces → g < length s.faces
    → IsFalse (meets (swept_box s (face_at s f)) (swept_box s (face_at s g)))
    → All (λ e. Apart (n.shape s e)) (n.tests s (Faces f g))

pub record FarApart (s : Sheet) : Type 0 where
  pub vf : AllFarApart vf_naming s
  pub ee : AllFarApart ee_naming s

-- ---- what an inspection leaves: its accepted offers, and the names on its two lists
pub record Inspected : Type 0 where
  pub history : List Accepted
  pub vf : List VfName
  pub ee : List EeName

-- that is left by a run over this draft and sheet, by whatever lawful set, or is claimed of one
pub data IsLeft (d : Draft) (s : Sheet) : Inspected → Type 0 where
  ran : (set : Shape → Bool) → Lawful set → (history : List Accepted) (out : List Slip) (t : State)
      → Run set d s history out t
      → IsLeft d s (record { history = history; vf = t.lists.vf.entries; ee = t.lists.ee.entries })
  claimed : {x : Inspected} (set : Shape → Bool) (core : Core)
      → Claim set d s x.history core x.vf x.ee → IsLeft d s x

-- ---- offered all, these pairs cover the sheet
pub record CoversSheet (d : Draft) (s : Sheet) (ps : List Pair) : Type 0 where
  -- after every run, by whatever lawful set, whose accepted offers have them
  pub runs : (set : Shape → Bool) → Lawful set → (history : List Accepted)
      (out : List Slip) (t : State) → Run set d s history out t → HasAll ps history
      → WholeSheetApart s t.lists.vf.entries t.lists.ee.entries
  -- and by whatever claim on such offers
  pub claims : (set : Shape → Bool) (history : List Accepted) (core : Core)
      (vfs : List VfName) (ees : List EeName)
      → Claim set d s history core vfs ees → HasAll ps history → WholeSheetApart s vfs ees
  -- and so after several, of which each pair was accepted by some, where what is listed is on a list
  -- of one of them
  pub several : (xs : List Inspected) → All (IsLeft d s) xs
      → HasAll ps (flat_map (λ x. x.history) xs)
      → WholeSheetApart s (flat_map (λ x. x.vf) xs) (flat_map (λ x. x.ee) xs)
  -- the other pairs of faces need no offer
  pub far : FarApart s
