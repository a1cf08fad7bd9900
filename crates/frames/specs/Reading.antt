-- What comes of frames' texts of which the first bytes came, whatever they have past those.
use Rattle.std.specs.Prelude.{◌≡◌, List, take, Some, None, Ok, Err, Result}
use Rattle.hosts.specs.Events.{Event, Call}
use Rattle.hosts.specs.Outcomes.{Reads}
use Rattle.sheet.specs.Sheet.{draft_of}
use Rattle.sheet.specs.declared.drafts.Draft.{Draft}
use Rattle.sheet.specs.declared.rows.Face.{Face}
use Rattle.sheet.specs.declared.rows.Point.{Point}
use Rattle.frames.specs.Frames.{Frames, text_of, same_frame, faces_of, step_between, no_step, needed_frames}
use Rattle.frames.specs.declared.frame_files.FrameFile.{FrameFile}
use Rattle.frames.specs.declared.frame_files.NoStep.{NoStep}

-- ---- both
-- tables whose first rows are the sheet that moves from the first frame to the second
pub record HoldsStep (f : Frames) (ps : List Point) (fs : List Face) (d : Draft) : Type 0 where
  pub is_step : no_step f ≡ None
  pub draft : d ≡ draft_of f.start
  pub points : take d.points ps ≡ step_between f
  pub faces : take d.faces fs ≡ faces_of f.start

abbrev pub FramesSay : List Point → List Face → Frames → Result Draft NoStep → Type 0
FramesSay ps fs f (Ok d) = HoldsStep f ps fs d
FramesSay ps fs f (Err why) = no_step f ≡ Some why

-- the frames that are needed were read, and nothing was written
unfoldable pub FramesRead : {S E : Type 0} → (S → Event FrameFile → S → Type 0)
    → (S → Call FrameFile → E → S → Type 0) → List Point → List Face
    → S → Result (Result Draft NoStep) E → S → Type 0
FramesRead does fails ps fs s r t = Reads same_frame text_of needed_frames does fails (FramesSay ps fs) s r t
