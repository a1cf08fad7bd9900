-- What two texts come to: a faulty first frame, a faulty second one, or none.
use Rattle.std.proofs.Common.{◌≡◌, length, nat_lt, Some, None, Option, option_map, IfSome, refl, sym, lit≤}
use Rattle.sheet.specs.IsSheet.{IsSheet}
use Rattle.sheet.specs.Lines.{numbered_lines}
use Rattle.sheet.specs.Checks.{check}
use Rattle.sheet.specs.Sheet.{point_limit, face_limit, text_limit, no_rows, room_in, lines_checks, draft_of}
use Rattle.sheet.specs.declared.notices.Layer.TheVariants.{Sheet}
use Rattle.sheet.specs.declared.notices.Notice.{Notice}
use Rattle.step.specs.Steps.{Step}
use Rattle.frames.specs.declared.comparing.Difference.{Difference}
use Rattle.frames.specs.Frames.{Frames, frame_fault, points_of, faces_of, difference_between, step_between, or_faulty}
use Rattle.frames.specs.Outcomes.{outcome, outcome_by}
use Rattle.frames.specs.declared.frame_files.FrameFile.TheVariants.{Start, End}
use Rattle.frames.specs.declared.frame_files.NoStep.TheVariants.{Different}
use Rattle.sheet.proofs.FirstFit.{no_fit}
use Rattle.sheet.proofs.Sound.{sound}
use Rattle.frames.proofs.Between.{same_count, ends_between}

-- what is stored is the record of the step
module _ (f : Frames) where
  is_sheet : frame_fault f.end ≡ None → IsSheet (points_of f.end) (faces_of f.end)
  is_sheet good =
      let room = room_in point_limit face_limit in
      let lines = lines_checks room no_rows (numbered_lines f.end) in
      let long = check (nat_lt text_limit (length f.end)) 6 Sheet 0 0 in
      sound room (numbered_lines f.end) (points_of f.end) (faces_of f.end) (lit≤ tt) (lit≤ tt) (sym (no_fit long lines good).1) refl refl

  by_cases : (a b : Option Notice) (d : Option Difference) → frame_fault f.end ≡ b → difference_between f ≡ d
      → IfSome (outcome_by (or_faulty Start a (or_faulty End b (option_map Different d))) (step_between f)).stored (λ bs. Step (points_of f.start) bs (step_between f))
  by_cases None None None good same =
      (ends_between (points_of f.start) (points_of f.end) (same_count (draft_of f.start) (draft_of f.end) (faces_of f.start) (faces_of f.end) same) (is_sheet good).resting, refl)
  by_cases None None (Some d) good same = tt
  by_cases None (Some n) d good same = tt
  by_cases (Some n) b d good same = tt

  pub means : IfSome (outcome f).stored (λ bs. Step (points_of f.start) bs (step_between f))
  means = by_cases (frame_fault f.start) (frame_fault f.end) (difference_between f) refl refl
