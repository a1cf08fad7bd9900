-- Two frames by their texts, and the step between them.
use Rattle.std.specs.Prelude.{ℕ, Bool, true, false, List, [], ◌∷◌, Some, None, Option, option_map}
use Rattle.hosts.specs.Works.{unless_found}
use Rattle.sheet.specs.Checks.{first_fit}
use Rattle.sheet.specs.Lines.{numbered_lines}
use Rattle.sheet.specs.Sheet.{point_limit, face_limit, sheet_checks, draft_of, points_in, faces_in}
use Rattle.sheet.specs.declared.notices.Notice.{Notice}
use Rattle.sheet.specs.declared.rows.Face.{Face}
use Rattle.sheet.specs.declared.rows.Point.{Point}
use Rattle.frames.specs.Comparing.{difference_of, ending_at}
use Rattle.frames.specs.declared.comparing.Difference.{Difference}
use Rattle.frames.specs.declared.frame_files.FrameFile.{FrameFile}
use Rattle.frames.specs.declared.frame_files.FrameFile.TheVariants.{Start, End}
use Rattle.frames.specs.declared.frame_files.NoStep.{NoStep}
use Rattle.frames.specs.declared.frame_files.NoStep.TheVariants.{Faulty, Different}

pub record Frames : Type 0 where
  pub start : List ℕ
  pub end : List ℕ

abbrev pub frames : List ℕ → List ℕ → Frames
frames s e = record { start = s; end = e }

abbrev pub text_of : Frames → FrameFile → List ℕ
text_of f Start = f.start
text_of f End = f.end

abbrev pub same_frame : FrameFile → FrameFile → Bool
same_frame Start Start = true
same_frame End End = true
same_frame f g = false

-- ---- what a text says
abbrev pub frame_fault : List ℕ → Option Notice
frame_fault text = first_fit (sheet_checks text point_limit face_limit)

abbrev pub points_of : List ℕ → List Point
points_of text = points_in (numbered_lines text)

abbrev pub faces_of : List ℕ → List Face
faces_of text = faces_in (numbered_lines text)

-- ---- of two frames
abbrev pub difference_between : Frames → Option Difference
difference_between f =
    difference_of (draft_of f.start) (faces_of f.start) (draft_of f.end) (faces_of f.end)

-- the points of the first, each with the end at which it starts in the second
abbrev pub step_between : Frames → List Point
step_between f = ending_at (points_of f.start) (points_of f.end)

-- ---- why there is none: a frame has a fault, or they differ
abbrev pub or_faulty : FrameFile → Option Notice → Option NoStep → Option NoStep
or_faulty file (Some n) later = Some (Faulty file n)
or_faulty file None later = later

abbrev pub no_step : Frames → Option NoStep
no_step f =
    or_faulty Start (frame_fault f.start)
    (or_faulty End (frame_fault f.end)
    (option_map Different (difference_between f)))

-- ---- which files are needed; after a fault no more
abbrev pub needed_frames : Frames → List FrameFile
needed_frames f = Start ∷ unless_found (frame_fault f.start) (End ∷ [])
