-- A plan by the bytes of its files: what its sheet and its step say.
use Rattle.std.specs.Prelude.{◌≡◌, ℕ, Bool, true, false, List, [], ◌∷◌, take, Some, None, Option}
use Rattle.hosts.specs.Events.{Event, Fits, bytes_asked, bytes_came}
use Rattle.hosts.specs.Works.{unless_found}
use Rattle.sheet.specs.Checks.{first_fit}
use Rattle.sheet.specs.Lines.{numbered_lines}
use Rattle.sheet.specs.Sheet.{point_limit, face_limit, sheet_checks, draft_of, points_in, faces_in}
use Rattle.sheet.specs.declared.notices.Notice.{Notice}
use Rattle.sheet.specs.declared.drafts.Draft.{Draft}
use Rattle.sheet.specs.declared.rows.Point.{Point}
use Rattle.sheet.specs.declared.rows.Face.{Face}
use Rattle.step.specs.Laying.{lay_checks, with_ends}
use Rattle.inspection.specs.Sheets.{Sheet, sheet_of}
use Rattle.plan.specs.declared.plan_files.PlanFile.{PlanFile}
use Rattle.plan.specs.declared.plan_files.PlanFile.TheVariants.{Sheet as SheetFile, Step as StepFile, Pairs as PairsFile}

-- the bytes of its three files
pub record Plan : Type 0 where
  pub sheet : List ℕ
  pub step : List ℕ
  pub pairs : List ℕ

abbrev pub plan : List ℕ → List ℕ → List ℕ → Plan
plan sheet step pairs = record { sheet = sheet; step = step; pairs = pairs }

abbrev pub bytes_of : Plan → PlanFile → List ℕ
bytes_of p SheetFile = p.sheet
bytes_of p StepFile = p.step
bytes_of p PairsFile = p.pairs

abbrev pub same_plan_file : PlanFile → PlanFile → Bool
same_plan_file SheetFile SheetFile = true
same_plan_file StepFile StepFile = true
same_plan_file PairsFile PairsFile = true
same_plan_file f g = false

-- of the files of a plan these bytes came
abbrev pub ReadsPlan : Plan → List (Event PlanFile) → Type 0
ReadsPlan p es = Fits same_plan_file (bytes_of p) es

-- of one of them
abbrev pub FitsFile : PlanFile → List ℕ → List (Event PlanFile) → Type 0
FitsFile f bytes es = bytes_came (same_plan_file f) es ≡ take (bytes_asked (same_plan_file f) es) bytes

-- ---- its sheet, and its step
abbrev pub draft : Plan → Draft
draft p = draft_of p.sheet

abbrev pub resting_points : Plan → List Point
resting_points p = points_in (numbered_lines p.sheet)

abbrev pub moving_points : Plan → List Point
moving_points p = with_ends (resting_points p) p.step

abbrev pub faces : Plan → List Face
faces p = faces_in (numbered_lines p.sheet)

abbrev pub sheet : Plan → Sheet
sheet p = sheet_of (moving_points p) (faces p)

abbrev pub sheet_fault : Plan → Option Notice
sheet_fault p = first_fit (sheet_checks p.sheet point_limit face_limit)

abbrev pub step_fault : Plan → Option Notice
step_fault p = first_fit (lay_checks (draft p).points (resting_points p) p.step)

-- the first fault
abbrev pub or_else : Option Notice → Option Notice → Option Notice
or_else (Some n) later = Some n
or_else None later = later

abbrev pub fault : Plan → Option Notice
fault p = or_else (sheet_fault p) (step_fault p)

-- the files that are needed to know it: the step where the sheet has no fault
abbrev pub needed_files : Plan → List PlanFile
needed_files p = SheetFile ∷ unless_found (sheet_fault p) (StepFile ∷ [])
