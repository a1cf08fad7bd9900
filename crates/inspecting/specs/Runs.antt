-- A whole run over two frames.
use Rattle.std.specs.Prelude.{ℕ, Ok, Err, Result}
use Rattle.system.specs.Deeds.{Deed, Task}
use Rattle.system.specs.OnDisk.{DoesOnDisk, FailsOnDisk, Runs}
use Rattle.system.specs.declared.on_disk.OnDisk.{OnDisk}
use Rattle.frames.specs.declared.frame_files.FrameFile.{FrameFile}
use Rattle.works.specs.two_frames.Works.{InspectsFrames}
use Rattle.works.specs.declared.two_frames.endings.FramesEnding.{FramesEnding}
use Rattle.works.specs.declared.two_frames.endings.FramesEnding.TheVariants.{Covered, Refused, Unsearched, Faulty, Different}
use Rattle.inspecting.specs.declared.paths.FramePaths.{FramePaths}
use Rattle.inspecting.specs.FramePaths.{frame_path, no_target, frame_lasts}

abbrev pub InspectsOnDisk : {D E : Type 0} → (D → Deed FrameFile → D → Type 0)
    → (D → Task FrameFile → E → D → Type 0)
    → OnDisk D FramePaths → Result FramesEnding E → OnDisk D FramePaths → Type 0
InspectsOnDisk does fails s r t =
    Runs does fails frame_lasts
    (InspectsFrames (DoesOnDisk frame_path no_target does) (FailsOnDisk frame_path no_target fails)) s r t

-- the exit status: zero where all was inspected, pairs refused or not
abbrev pub frames_status : {E : Type 0} → Result FramesEnding E → ℕ
frames_status (Ok Covered) = 0
frames_status (Ok (Refused n)) = 0
frames_status (Ok (Unsearched n)) = 1
frames_status (Ok (Faulty f n)) = 1
frames_status (Ok (Different d)) = 1
frames_status (Err e) = 1
