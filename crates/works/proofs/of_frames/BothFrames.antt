-- Frames that were read, and then what comes of them was printed and stored.
use Rattle.std.proofs.Common.{◌≡◌, ◌≤◌, List, length, Ok, Err, Result, sym, ap, ◌∙◌, subst}
use Rattle.hosts.specs.Events.{Event, Call}
use Rattle.hosts.specs.Writing.{Written, printing, Writes}
use Rattle.hosts.proofs.Outcomes.{read_then_written, not_read}
use Rattle.sheet.specs.declared.drafts.Draft.{Draft}
use Rattle.sheet.specs.declared.rows.Face.{Face}
use Rattle.sheet.specs.declared.rows.Point.{Point}
use Rattle.frames.specs.Frames.{Frames, text_of, same_frame, needed_frames}
use Rattle.frames.specs.Outcomes.{with_line_feed, no_step_line}
use Rattle.frames.specs.Reading.{FramesSay, FramesRead}
use Rattle.frames.specs.declared.frame_files.FrameFile.{FrameFile}
use Rattle.frames.specs.declared.frame_files.NoStep.{NoStep}
use Rattle.works.specs.two_frames.Accounts.{Account, account, Claims}
use Rattle.works.specs.two_frames.Works.{without_step, step_account, search_fault_in, SearchEnds, InspectsStep, EndsFrames, InspectsFrames}
use Rattle.works.specs.declared.two_frames.endings.FramesEnding.{FramesEnding}
use Rattle.works.proofs.of_frames.SameAccount.{no_step_account, no_step_claims, same_account, step_claims, step_ending}
use Rattle.works.proofs.of_frames.Settling.{settled_frames}

abbrev all_of : Frames → List Written
all_of f = (account f).all

ends_as : (f : Frames) (e : FramesEnding) → e ≡ (account f).ending → Claims f e → EndsFrames f e
ends_as f e is claims = record { ending = is; claims = claims; settles = settled_frames f (subst (Claims f) is claims) }

module _ {S E : Type 0} (does : S → Event FrameFile → S → Type 0) (fails : S → Call FrameFile → E → S → Type 0) (ps : List Point) (fs : List Face) (s t : S) where
  pub unread : (e : E) (r : Result FramesEnding E) → FramesRead does fails ps fs s (Err e) t → r ≡ Err e → InspectsFrames does fails s r t
  unfolding FramesRead InspectsFrames
  unread e r read is = not_read same_frame text_of needed_frames does fails (FramesSay ps fs) all_of EndsFrames s t e r read is

  module _ (u : S) (r : Result FramesEnding E) where
    pub no_step_told : (why : NoStep) → FramesRead does fails ps fs s (Ok (Err why)) t → Writes does fails (printing (with_line_feed (no_step_line why))) (without_step why) t r u → InspectsFrames does fails s r u
    unfolding FramesRead InspectsFrames
    no_step_told why read told =
        read_then_written same_frame text_of needed_frames does fails (FramesSay ps fs) all_of EndsFrames s t u (Err why) _ (λ x. x ≡ without_step why) r read
        (λ f says.
        let is = no_step_account f why says in
        (ap (λ (a : Account). a.all) is, λ x same. ends_as f x (same ∙ sym (ap (λ (a : Account). a.ending) is)) (subst (Claims f) (sym same) (no_step_claims f why says)))) told

    pub step_inspected : (d : Draft) → FramesRead does fails ps fs s (Ok (Ok d)) t → d.points ≤ length ps → d.faces ≤ length fs → InspectsStep d ps fs does fails t r u → InspectsFrames does fails s r u
    unfolding FramesRead InspectsFrames InspectsStep
    step_inspected d read points faces inspects =
        read_then_written same_frame text_of needed_frames does fails (FramesSay ps fs) all_of EndsFrames s t u (Ok d) (step_account d ps fs).all (SearchEnds d ps fs (search_fault_in d ps fs)) r read
        (λ f says. (
          sym (ap (λ (a : Account). a.all) (same_account f d ps fs says points faces)),
          λ x end. ends_as f x (step_ending f d ps fs says points faces x end) (step_claims f d ps fs says points faces x end),
        )) inspects
