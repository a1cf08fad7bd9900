-- What comes of a plan's sheet and step of which the first bytes came, whatever they have past those.
use Rattle.std.specs.Prelude.{◌≡◌, IsFalse, List, [], ◌++◌, Some, None, Ok, Err, Result}
use Rattle.hosts.specs.Events.{Event, Call, files_read, unread}
use Rattle.hosts.specs.Works.{Worked, IsFront}
use Rattle.hosts.specs.Writing.{written}
use Rattle.sheet.specs.declared.drafts.Draft.{Draft}
use Rattle.sheet.specs.declared.notices.Notice.{Notice}
use Rattle.sheet.specs.declared.rows.Point.{Point}
use Rattle.sheet.specs.declared.rows.Face.{Face}
use Rattle.inspection.specs.Offers.{lacks_rows}
use Rattle.inspection.specs.Sheets.{sheet_in}
use Rattle.plan.specs.Plans.{Plan, ReadsPlan, FitsFile, draft, sheet, fault, needed_files}
use Rattle.plan.specs.declared.plan_files.PlanFile.{PlanFile}
use Rattle.plan.specs.declared.plan_files.PlanFile.TheVariants.{Sheet as SheetFile, Step as StepFile}

-- these tables hold the sheet of a plan that has no fault
pub record HoldsPlan (p : Plan) (d : Draft) (ps : List Point) (fs : List Face) : Type 0 where
  pub no_fault : fault p ≡ None
  pub draft : d ≡ draft p
  pub sheet : sheet_in d ps fs ≡ sheet p

-- ---- both: the tables hold the plan's sheet with its step, or it has this fault
abbrev pub PlanSays : Plan → List Point → List Face → Result Draft Notice → Type 0
PlanSays p ps fs (Ok d) = HoldsPlan p d ps fs × IsFalse (lacks_rows d ps fs)
PlanSays p ps fs (Err n) = fault p ≡ Some n

-- the files that are needed were read, and nothing was written
pub record IsPlanRead (ps : List Point) (fs : List Face) (es : List (Event PlanFile))
    (read : Result Draft Notice)
    : Type 0 where
  pub reads_only : written es ≡ []
  pub says : (p : Plan) → FitsFile SheetFile p.sheet es → FitsFile StepFile p.step es
      → PlanSays p ps fs read × (files_read es ≡ needed_files p)

-- the next file could not be read
pub record IsPlanReadInPart (es : List (Event PlanFile)) (call : Call PlanFile) : Type 0 where
  pub reads_only : written es ≡ []
  pub files : (p : Plan) → ReadsPlan p es → IsFront (files_read es ++ unread call) (needed_files p)

unfoldable pub PlanRead : {S E : Type 0} → (S → Event PlanFile → S → Type 0)
    → (S → Call PlanFile → E → S → Type 0) → List Point → List Face
    → S → Result (Result Draft Notice) E → S → Type 0
PlanRead does fails ps fs s r t = Worked does fails (IsPlanRead ps fs) IsPlanReadInPart s r t
