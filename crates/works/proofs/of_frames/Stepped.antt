-- The step between two frames: its record lays onto the first, and gives back the sheet that moves.
use Rattle.std.proofs.Common.{◌≡◌, ℕ, List, [], length, take, Some, None, Option, option_map, IfSome, unwrap_or, if◌then◌else◌, true, refl, sym, ap, ◌∙◌, subst, arith}
use Rattle.std.proofs.Math.Seq.{take-length}
use Rattle.std.proofs.lemmas.Bool.{le-ltb}
use Rattle.sheet.specs.Checks.{first_fit, check}
use Rattle.sheet.specs.declared.drafts.Draft.{Draft}
use Rattle.sheet.specs.declared.notices.Layer.TheVariants as layer
use Rattle.sheet.specs.declared.notices.Notice.{Notice}
use Rattle.sheet.specs.declared.rows.Point.{Point}
use Rattle.sheet.specs.declared.rows.Face.{Face}
use Rattle.step.specs.Laying.{rows_checks, with_ends}
use Rattle.step.specs.Steps.{Step}
use Rattle.step.proofs.StepLaws.{rows_back}
use Rattle.inspection.specs.Sheets.{sheet_of}
use Rattle.frames.specs.declared.comparing.Difference.{Difference}
use Rattle.frames.specs.Frames.{Frames, frame_fault, points_of, faces_of, difference_between, step_between, no_step, or_faulty}
use Rattle.frames.specs.Outcomes.{outcome, outcome_by, recorded}
use Rattle.frames.specs.Reading.{HoldsStep}
use Rattle.frames.specs.declared.frame_files.FrameFile.TheVariants.{Start, End}
use Rattle.frames.specs.declared.frame_files.NoStep.TheVariants.{Different}
use Rattle.frames.proofs.Endings.{means}
use Rattle.plan.specs.Plans.{plan, sheet, sheet_fault, step_fault, fault, or_else}
use Rattle.plan.specs.Reading.{HoldsPlan}
use Rattle.works.specs.two_frames.Accounts.{record_between, sheet_between}

-- then the first frame has no fault
first_is_good : (a b : Option Notice) (d : Option Difference) → or_faulty Start a (or_faulty End b (option_map Different d)) ≡ None → a ≡ None
first_is_good None b d h = refl
first_is_good (Some n) b d h = cc

module _ (f : Frames) (is_step : no_step f ≡ None) where
  pub same_outcome : outcome f ≡ recorded (step_between f)
  same_outcome = ap (λ o. outcome_by o (step_between f)) is_step

  step : Step (points_of f.start) (record_between f) (step_between f)
  step =
      subst (λ o. IfSome o.stored (λ bs. Step (points_of f.start) bs (step_between f)) → Step (points_of f.start) (unwrap_or o.stored []) (step_between f))
      (sym same_outcome) (λ h. h) (means f)

  laid : (first_fit (rows_checks 0 (points_of f.start) (record_between f)) ≡ None) × (with_ends (points_of f.start) (record_between f) ≡ step_between f)
  laid =
      let back = rows_back 0 (points_of f.start) (step_between f) step.0 in
      (ap (λ bs. first_fit (rows_checks 0 (points_of f.start) bs)) (sym step.1) ∙ back.0, ap (with_ends (points_of f.start)) (sym step.1) ∙ back.1)

  module _ (pairs : List ℕ) where
    no_sheet_fault : sheet_fault (plan f.start (record_between f) pairs) ≡ None
    no_sheet_fault = first_is_good (frame_fault f.start) (frame_fault f.end) (difference_between f) is_step

    no_step_fault : step_fault (plan f.start (record_between f) pairs) ≡ None
    no_step_fault =
        let rows = points_of f.start in
        let n = length rows in
        ap (λ x. if x then Some (check true 13 layer.Step 0 0).tells else first_fit (rows_checks 0 (take n rows) (record_between f))) (le-ltb n n (omega arith))
        ∙ ap (λ l. first_fit (rows_checks 0 l (record_between f))) (take-length rows) ∙ laid.0

    pub no_fault : fault (plan f.start (record_between f) pairs) ≡ None
    no_fault = λ i. or_else (no_sheet_fault i) (no_step_fault i)

    pub same_sheet : sheet (plan f.start (record_between f) pairs) ≡ sheet_between f
    same_sheet = ap (λ ps. sheet_of ps (faces_of f.start)) laid.1

    -- tables that hold the step hold the plan
    pub holds : (d : Draft) (ps : List Point) (fs : List Face) → HoldsStep f ps fs d → HoldsPlan (plan f.start (record_between f) pairs) d ps fs
    holds d ps fs h = record { no_fault = no_fault; draft = h.draft; sheet = (λ i. sheet_of (h.points i) (h.faces i)) ∙ sym same_sheet }
