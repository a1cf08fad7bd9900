-- What the work of `record` comes to, whatever bytes the files have beyond those that came.
use Rattle.std.specs.Prelude.{◌≡◌, IfSome, Result}
use Rattle.hosts.specs.Events.{Event, Call}
use Rattle.hosts.specs.Outcomes.{ReadsAndWrites}
use Rattle.hosts.specs.Writing.{writes_of}
use Rattle.step.specs.Steps.{Step}
use Rattle.frames.specs.Frames.{Frames, text_of, same_frame, points_of, step_between, needed_frames}
use Rattle.frames.specs.Outcomes.{outcome}
use Rattle.frames.specs.declared.frame_files.FrameFile.{FrameFile}
use Rattle.frames.specs.declared.frame_files.Recording.{Recording}

-- what it answers to its end
pub record EndsRecording (f : Frames) (came : Recording) : Type 0 where
  pub answer : came ≡ (outcome f).answer
  -- what is stored is the record of the step
  pub means : IfSome (outcome f).stored
      (λ bytes. Step (points_of f.start) bytes (step_between f))

-- all that it can come to: the frames that are needed are read, in their order, and no others, and then
-- the record is stored and the line printed; or a call fails, and ends it
unfoldable pub Records : {S E : Type 0} → (S → Event FrameFile → S → Type 0)
    → (S → Call FrameFile → E → S → Type 0) → S → Result Recording E → S → Type 0
Records does fails s r t =
    ReadsAndWrites same_frame text_of needed_frames does fails (λ f. writes_of (outcome f)) EndsRecording s r t
