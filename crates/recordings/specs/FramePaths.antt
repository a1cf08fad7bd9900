-- Where two frames lie, and where the record of the step between them is stored.
use Rattle.std.specs.Prelude.{ℕ, List, [], ◌∷◌, Some, Option, string_bytes}
use Rattle.system.specs.Deeds.{Deed, Flushed, Kept}
use Rattle.frames.specs.declared.frame_files.FrameFile.{FrameFile}
use Rattle.frames.specs.declared.frame_files.FrameFile.TheVariants.{Start, End}
use Rattle.frames.specs.declared.frame_files.Recording.{Recording}
use Rattle.frames.specs.declared.frame_files.Recording.TheVariants.{Recorded, Faulty, Different}
use Rattle.recordings.specs.declared.paths.Paths.{Paths}

abbrev pub record_path : Paths → FrameFile → List ℕ
record_path p Start = string_bytes p.start
record_path p End = string_bytes p.end

abbrev pub step_path : Paths → Option (List ℕ)
step_path p = Some (string_bytes p.step)

-- where a record was stored, it is kept, and only then its line goes out
abbrev pub record_lasts : Paths → Recording → List (Deed FrameFile)
record_lasts p Recorded = Kept (string_bytes p.step) ∷ Flushed ∷ []
record_lasts p (Faulty f n) = Flushed ∷ []
record_lasts p (Different d) = Flushed ∷ []
