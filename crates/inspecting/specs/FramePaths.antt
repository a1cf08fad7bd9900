-- Where two frames lie; nothing is stored.
use Rattle.std.specs.Prelude.{ℕ, List, [], ◌∷◌, None, Option, string_bytes}
use Rattle.system.specs.Deeds.{Deed, Flushed}
use Rattle.frames.specs.declared.frame_files.FrameFile.{FrameFile}
use Rattle.frames.specs.declared.frame_files.FrameFile.TheVariants.{Start, End}
use Rattle.works.specs.declared.two_frames.endings.FramesEnding.{FramesEnding}
use Rattle.inspecting.specs.declared.paths.FramePaths.{FramePaths}

abbrev pub frame_path : FramePaths → FrameFile → List ℕ
frame_path p Start = string_bytes p.start
frame_path p End = string_bytes p.end

abbrev pub no_target : FramePaths → Option (List ℕ)
no_target p = None

-- however it ends, what was printed goes out
abbrev pub frame_lasts : FramePaths → FramesEnding → List (Deed FrameFile)
frame_lasts p e = Flushed ∷ []
