-- What the front of a text says of the whole.
use Rattle.std.proofs.Common.{◌≡◌, ℕ, ◌+◌, List, length, take, drop, if◌then◌else◌, Ok, Err, Result, is_ok, IfOk, sym, ap, ◌∙◌}
use Rattle.std.proofs.Math.Seq.{take-append_seam}
use Rattle.sheet.specs.Checks.{first_fit, fault_notice}
use Rattle.sheet.specs.Faults.{notice_of_sheet}
use Rattle.sheet.specs.Sheet.{text_limit, point_limit, face_limit, sheet_checks, draft_of, onto_front}
use Rattle.sheet.specs.declared.drafts.Draft.{Draft}
use Rattle.sheet.specs.declared.faults.SheetFault.{SheetFault}
use Rattle.sheet.specs.declared.rows.Face.{Face}
use Rattle.sheet.specs.declared.rows.Point.{Point}
use Rattle.frames.specs.Frames.{frame_fault, points_of, faces_of}
use Rattle.frames.specs.inner.ReadFrame.{Says}
use Rattle.sheet.proofs.Fronts.{front_decides, front_is_whole}

first_rows : {X : Type 0} (n : ℕ) (rows table full : List X) → n ≡ length rows → full ≡ onto_front rows table → take n full ≡ rows
first_rows n rows table full e h = rw (e, h) (take-append_seam rows (drop (length rows) table))

-- a front that was read into tables of the full limits
module _ (ps qs : List Point) (fs gs : List Face) (front text : List ℕ) (p : length ps ≡ point_limit) (f : length fs ≡ face_limit) (is : front ≡ take (text_limit + 1) text) where
  fault_in : (r : Result Draft SheetFault) → fault_notice notice_of_sheet r ≡ first_fit (sheet_checks front (length ps) (length fs)) → frame_fault text ≡ fault_notice notice_of_sheet r
  fault_in r fault = sym (front_decides text point_limit face_limit) ∙ ap frame_fault (sym is) ∙ (λ i. first_fit (sheet_checks front (sym p i) (sym f i))) ∙ sym fault

  pub front_says : (r : Result Draft SheetFault) → fault_notice notice_of_sheet r ≡ first_fit (sheet_checks front (length ps) (length fs)) → IfOk r (λ d. d ≡ draft_of front)
      → qs ≡ (if is_ok r then onto_front (points_of front) ps else ps) → gs ≡ (if is_ok r then onto_front (faces_of front) fs else fs) → Says text qs gs r
  front_says (Err e) fault draft points faces = fault_in (Err e) fault
  front_says (Ok d) fault draft points faces =
      let whole : front ≡ text = is ∙ front_is_whole text point_limit face_limit (fault_in (Ok d) fault) in
      record {
        no_fault = fault_in (Ok d) fault;
        draft = draft ∙ ap draft_of whole;
        points = first_rows d.points (points_of front) ps qs (ap (λ e. e.points) draft) points ∙ ap points_of whole;
        faces = first_rows d.faces (faces_of front) fs gs (ap (λ e. e.faces) draft) faces ∙ ap faces_of whole;
      }
