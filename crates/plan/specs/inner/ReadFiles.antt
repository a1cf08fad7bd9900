-- What comes of the files of a plan, one by one.
use Rattle.std.specs.Prelude.{◌≡◌, ℕ, ◌+◌, All, false, List, take, Some, None, Ok, Err, Result}
use Rattle.hosts.specs.Events.{Event, Read, files_read}
use Rattle.sheet.specs.Faults.{notice_of_sheet}
use Rattle.sheet.specs.Sheet.{text_limit}
use Rattle.sheet.specs.declared.drafts.Draft.{Draft}
use Rattle.sheet.specs.declared.faults.SheetFault.{SheetFault}
use Rattle.sheet.specs.declared.rows.Point.{Point}
use Rattle.sheet.specs.declared.rows.Face.{Face}
use Rattle.step.specs.Faults.{notice_of_step}
use Rattle.step.specs.Limit.{record_limit}
use Rattle.step.specs.declared.faults.StepFault.{StepFault}
use Rattle.plan.specs.Plans.{Plan, same_plan_file, draft, resting_points, faces, sheet_fault, step_fault}
use Rattle.plan.specs.declared.plan_files.PlanFile.{PlanFile}
use Rattle.plan.specs.declared.plan_files.PlanFile.TheVariants.{Sheet as SheetFile, Step as StepFile}
use Rattle.plan.specs.Reading.{HoldsPlan}

-- these tables hold the sheet of a plan, at rest
pub record HoldsSheet (p : Plan) (d : Draft) (ps : List Point) (fs : List Face) : Type 0 where
  pub no_fault : sheet_fault p ≡ None
  pub draft : d ≡ draft p
  pub points : take d.points ps ≡ resting_points p
  pub faces : take d.faces fs ≡ faces p

-- ---- the sheet: the tables hold it, or it has this fault
abbrev pub SheetSays : Plan → List Point → List Face → Result Draft SheetFault → Type 0
SheetSays p ps fs (Ok d) = HoldsSheet p d ps fs
SheetSays p ps fs (Err x) = sheet_fault p ≡ Some (notice_of_sheet x)

pub record SheetRead {S : Type 0} (does : S → Event PlanFile → S → Type 0) (s : S)
    (ps : List Point) (fs : List Face) (read : Result Draft SheetFault) (t : S)
    : Type 0 where
  pub came : List ℕ
  pub did : does s (Read SheetFile (text_limit + 1) came) t
  pub says : (p : Plan) → came ≡ take (text_limit + 1) p.sheet → SheetSays p ps fs read

-- ---- the step, laid onto a sheet that the tables hold, or it has this fault
abbrev pub StepSays : Plan → Draft → List Point → List Face → Result (Unit {0}) StepFault → Type 0
StepSays p d ps fs (Ok x) = HoldsPlan p d ps fs
StepSays p d ps fs (Err x) = step_fault p ≡ Some (notice_of_step x)

pub record StepLaid {S : Type 0} (does : S → Event PlanFile → S → Type 0) (d : Draft)
    (old new : List Point) (s : S) (laid : Result (Unit {0}) StepFault) (t : S)
    : Type 0 where
  pub came : List ℕ
  pub did : does s (Read StepFile (record_limit + 1) came) t
  pub says : (p : Plan) (fs : List Face) → HoldsSheet p d old fs
      → came ≡ take (record_limit + 1) p.step → StepSays p d new fs laid

-- a file is not read
abbrev pub NotRead : PlanFile → List (Event PlanFile) → Type 0
NotRead f es = All (λ g. same_plan_file f g ≡ false) (files_read es)
