-- A sheet and its step, read into tables.
use Rattle.std.proofs.Common.{◌≡◌, ℕ, if◌then◌else◌, List, [], ◌++◌, length, take, drop, None, Ok, Err, Result, is_ok, IfOk, refl, sym, ap, ◌∙◌, subst, append_assoc}
use Rattle.std.proofs.Math.Seq.{take-append_seam, take-length}
use Rattle.sheet.specs.Checks.{first_fit, fault_notice}
use Rattle.sheet.specs.Faults.{notice_of_sheet}
use Rattle.sheet.specs.Lines.{numbered_lines}
use Rattle.sheet.specs.Sheet.{point_limit, face_limit, sheet_checks, draft_of, points_in, faces_in, onto_front}
use Rattle.sheet.specs.declared.drafts.Draft.{Draft}
use Rattle.sheet.specs.declared.faults.SheetFault.{SheetFault}
use Rattle.sheet.specs.declared.rows.Point.{Point}
use Rattle.sheet.specs.declared.rows.Face.{Face}
use Rattle.step.specs.Faults.{notice_of_step}
use Rattle.step.specs.Laying.{lay_checks, with_ends}
use Rattle.step.specs.declared.faults.StepFault.{StepFault}
use Rattle.step.proofs.LayAnswers.{length_with_ends}
use Rattle.plan.specs.Plans.{plan, Plan, draft, sheet_fault, step_fault, resting_points, moving_points, faces}
use Rattle.page.specs.Shown.{shown}
use Rattle.page.specs.inner.Told.{TellsRows}

front : {X : Type 0} (rows table : List X) (n : ℕ) → n ≡ length rows → take n (onto_front rows table) ≡ rows
front rows table n e = ap (λ k. take k (onto_front rows table)) e ∙ take-append_seam rows (drop (length rows) table)

module _ (text bytes : List ℕ) (ps : List Point) (fs : List Face) (m : length ps ≡ point_limit) (n : length fs ≡ face_limit)
    (r : Result Draft SheetFault) (told : fault_notice notice_of_sheet r ≡ first_fit (sheet_checks text (length ps) (length fs))) where
  abbrev p : Plan
  p = plan text bytes []

  fault_is : sheet_fault p ≡ fault_notice notice_of_sheet r
  fault_is = sym (λ i. first_fit (sheet_checks text (m i) (n i))) ∙ sym told

  none : {vs : List Point} {hs : List Face} → TellsRows (record { code = 1; points = []; faces = [] }) vs hs (record { code = 1; points = 0; faces = 0 })
  none = record { code = refl; points = refl; faces = refl; point_count = refl; face_count = refl }

  pub tells_none : (x : SheetFault) (qs : List Point) (gs : List Face) → r ≡ Err x → TellsRows (shown p) qs gs (record { code = 1; points = 0; faces = 0 })
  unfolding shown
  tells_none x qs gs is = rw (fault_is ∙ ap (fault_notice notice_of_sheet) is) none

  module _ (d : Draft) (is : r ≡ Ok d) (draft_is : IfOk r (λ e. e ≡ draft_of text)) (qs : List Point) (gs : List Face)
      (qs_is : qs ≡ (if is_ok r then onto_front (points_in (numbered_lines text)) ps else ps)) (gs_is : gs ≡ (if is_ok r then onto_front (faces_in (numbered_lines text)) fs else fs)) where
    clean : sheet_fault p ≡ None
    clean = fault_is ∙ ap (fault_notice notice_of_sheet) is

    d_is : d ≡ draft p
    d_is = subst (λ x. IfOk x (λ e. e ≡ draft_of text)) is draft_is

    rows_are : take d.points qs ≡ resting_points p
    rows_are =
        ap (take d.points) (qs_is ∙ ap (λ x. if is_ok x then onto_front (points_in (numbered_lines text)) ps else ps) is)
        ∙ front (resting_points p) ps d.points (ap (λ (k : Draft). k.points) d_is)

    faces_are : take d.faces gs ≡ faces p
    faces_are =
        ap (take d.faces) (gs_is ∙ ap (λ x. if is_ok x then onto_front (faces_in (numbered_lines text)) fs else fs) is)
        ∙ front (faces p) fs d.faces (ap (λ (k : Draft). k.faces) d_is)

    -- the step is laid onto just these rows
    module _ (k : ℕ) (k_is : k ≡ d.points) (laid : Result (Unit {0}) StepFault) (rows rest : List Point) (step_told : fault_notice notice_of_step laid ≡ first_fit (lay_checks d.points (take k qs) bytes))
        (rows_is : rows ≡ (if is_ok laid then onto_front (with_ends (take d.points (take k qs)) bytes) (take k qs) else take k qs)) where
      cut : take k qs ≡ resting_points p
      cut = ap (λ j. take j qs) k_is ∙ rows_are

      count : d.points ≡ length (resting_points p)
      count = ap (λ (h : Draft). h.points) d_is

      step_is : step_fault p ≡ fault_notice notice_of_step laid
      step_is = sym (λ i. first_fit (lay_checks (d_is i).points (cut i) bytes)) ∙ sym step_told

      rows_by : (y : Result (Unit {0}) StepFault) → laid ≡ y → rows ≡ (if is_ok y then onto_front (with_ends (take d.points (resting_points p)) bytes) (resting_points p) else resting_points p)
      rows_by y e = rows_is ∙ (λ i. if is_ok (e i) then onto_front (with_ends (take d.points (cut i)) bytes) (cut i) else cut i)

      pub tells_none_laid : (x : StepFault) (vs : List Point) (hs : List Face) → laid ≡ Err x → TellsRows (shown p) vs hs (record { code = 1; points = 0; faces = 0 })
      unfolding shown
      tells_none_laid x vs hs e = rw clean (rw (step_is ∙ ap (fault_notice notice_of_step) e) none)

      moves : with_ends (take d.points (resting_points p)) bytes ≡ moving_points p
      moves = ap (λ l. with_ends l bytes) (ap (λ j. take j (resting_points p)) count ∙ take-length (resting_points p))

      moving_count : d.points ≡ length (moving_points p)
      moving_count = count ∙ sym (length_with_ends (resting_points p) bytes)

      pub tells_step : (x : Unit {0}) → laid ≡ Ok x → TellsRows (shown p) (rows ++ rest) gs (record { code = 0; points = d.points; faces = d.faces })
      unfolding shown
      tells_step x e =
          let later = drop (length (moving_points p)) (resting_points p) in
          rw clean (rw (step_is ∙ ap (fault_notice notice_of_step) e)
          (record {
            code = refl;
            points = ap (λ l. take d.points (l ++ rest)) (rows_by (Ok x) e ∙ ap (λ l. onto_front l (resting_points p)) moves)
                ∙ ap (take d.points) (append_assoc (moving_points p) later rest)
                ∙ ap (λ j. take j (moving_points p ++ (later ++ rest))) moving_count
                ∙ take-append_seam (moving_points p) (later ++ rest);
            faces = faces_are;
            point_count = moving_count;
            face_count = ap (λ (h : Draft). h.faces) d_is;
          }))
