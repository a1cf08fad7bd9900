-- Frames that were read, and then what comes of them was written.
use Rattle.std.proofs.Common.{◌≡◌, List, take, Ok, Err, Result, sym, ap, ◌∙◌}
use Rattle.hosts.specs.Events.{Event, Call}
use Rattle.hosts.specs.Writing.{Writes, printing, writes_of}
use Rattle.hosts.proofs.Outcomes.{read_then_written, not_read}
use Rattle.sheet.specs.declared.drafts.Draft.{Draft}
use Rattle.sheet.specs.declared.rows.Face.{Face}
use Rattle.sheet.specs.declared.rows.Point.{Point}
use Rattle.frames.specs.Frames.{text_of, same_frame, step_between, needed_frames}
use Rattle.frames.specs.Outcomes.{outcome, outcome_by, recorded, with_line_feed, no_step_line, unrecorded}
use Rattle.frames.specs.Reading.{FramesSay, FramesRead}
use Rattle.frames.specs.Works.{EndsRecording, Records}
use Rattle.frames.specs.declared.frame_files.FrameFile.{FrameFile}
use Rattle.frames.specs.declared.frame_files.NoStep.{NoStep}
use Rattle.frames.specs.declared.frame_files.Recording.{Recording}
use Rattle.frames.proofs.Endings.{means}

module _ {S E : Type 0} (does : S → Event FrameFile → S → Type 0) (fails : S → Call FrameFile → E → S → Type 0) (ps : List Point) (fs : List Face) (s t : S) where
  pub unread : (e : E) (r : Result Recording E) → FramesRead does fails ps fs s (Err e) t → r ≡ Err e → Records does fails s r t
  unfolding FramesRead Records
  unread e r read is = not_read same_frame text_of needed_frames does fails (FramesSay ps fs) (λ f. writes_of (outcome f)) EndsRecording s t e r read is

  module _ (u : S) (r : Result Recording E) where
    pub told : (why : NoStep) → FramesRead does fails ps fs s (Ok (Err why)) t → Writes does fails (printing (with_line_feed (no_step_line why))) (unrecorded why) t r u → Records does fails s r u
    unfolding FramesRead Records
    told why read written =
        read_then_written same_frame text_of needed_frames does fails (FramesSay ps fs) (λ f. writes_of (outcome f)) EndsRecording s t u (Err why) _ (λ x. x ≡ unrecorded why) r read
        (λ f says.
        let o = ap (λ o. outcome_by o (step_between f)) says in
        (ap writes_of o, λ x is. record { answer = is ∙ sym (ap (λ o. o.answer) o); means = means f })) written

    pub stored : (d : Draft) → FramesRead does fails ps fs s (Ok (Ok d)) t → (let o = recorded (take d.points ps) in Writes does fails (writes_of o) o.answer t r u) → Records does fails s r u
    unfolding FramesRead Records
    stored d read written =
        read_then_written same_frame text_of needed_frames does fails (FramesSay ps fs) (λ f. writes_of (outcome f)) EndsRecording s t u (Ok d) (writes_of (recorded (take d.points ps))) (λ x. x ≡ (recorded (take d.points ps)).answer) r read
        (λ f says.
        let o : outcome f ≡ recorded (take d.points ps) = ap (λ o. outcome_by o (step_between f)) says.is_step ∙ ap recorded (sym says.points) in
        (ap writes_of o, λ x is. record { answer = is ∙ sym (ap (λ o. o.answer) o); means = means f })) written
