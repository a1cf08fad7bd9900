-- What comes of one frame.
use Rattle.std.specs.Prelude.{◌≡◌, ℕ, ◌+◌, List, take, Some, None, Ok, Err, Result}
use Rattle.hosts.specs.Events.{Event, Read, Fits}
use Rattle.sheet.specs.Faults.{notice_of_sheet}
use Rattle.sheet.specs.Sheet.{text_limit, draft_of}
use Rattle.sheet.specs.declared.drafts.Draft.{Draft}
use Rattle.sheet.specs.declared.faults.SheetFault.{SheetFault}
use Rattle.sheet.specs.declared.rows.Face.{Face}
use Rattle.sheet.specs.declared.rows.Point.{Point}
use Rattle.frames.specs.Frames.{Frames, text_of, same_frame, frame_fault, points_of, faces_of}
use Rattle.frames.specs.declared.frame_files.FrameFile.{FrameFile}

-- ---- one frame
-- tables whose first rows are the frame of a text
pub record IsFrame (text : List ℕ) (ps : List Point) (fs : List Face) (d : Draft) : Type 0 where
  pub no_fault : frame_fault text ≡ None
  pub draft : d ≡ draft_of text
  pub points : take d.points ps ≡ points_of text
  pub faces : take d.faces fs ≡ faces_of text

abbrev pub Says : List ℕ → List Point → List Face → Result Draft SheetFault → Type 0
Says text ps fs (Ok d) = IsFrame text ps fs d
Says text ps fs (Err fault) = frame_fault text ≡ Some (notice_of_sheet fault)

-- the file was read once, up to one byte past the longest text, and so says the whole text, whatever
-- it has past what came
pub record FrameRead {S : Type 0} (does : S → Event FrameFile → S → Type 0) (file : FrameFile)
    (s : S) (ps : List Point) (fs : List Face) (read : Result Draft SheetFault) (t : S)
    : Type 0 where
  pub came : List ℕ
  pub did : does s (Read file (text_limit + 1) came) t
  pub says : (text : List ℕ) → came ≡ take (text_limit + 1) text → Says text ps fs read

-- of the frames' files these bytes came
abbrev pub ReadsFrames : Frames → List (Event FrameFile) → Type 0
ReadsFrames f es = Fits same_frame (text_of f) es
