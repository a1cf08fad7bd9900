-- A whole run over two frames.
use Rattle.std.specs.Prelude.{ℕ, Ok, Err, Result}
use Rattle.system.specs.Deeds.{Deed, Task}
use Rattle.system.specs.OnDisk.{DoesOnDisk, FailsOnDisk, Runs}
use Rattle.system.specs.declared.on_disk.OnDisk.{OnDisk}
use Rattle.frames.specs.declared.frame_files.FrameFile.{FrameFile}
use Rattle.frames.specs.declared.frame_files.Recording.{Recording}
use Rattle.frames.specs.declared.frame_files.Recording.TheVariants.{Recorded, Faulty, Different}
use Rattle.frames.specs.Works.{Records}
use Rattle.recordings.specs.declared.paths.Paths.{Paths}
use Rattle.recordings.specs.FramePaths.{record_path, step_path, record_lasts}

abbrev pub RecordsFrames : {D E : Type 0} → (D → Deed FrameFile → D → Type 0)
    → (D → Task FrameFile → E → D → Type 0)
    → OnDisk D Paths → Result Recording E → OnDisk D Paths → Type 0
RecordsFrames does fails s r t =
    Runs does fails record_lasts
    (Records (DoesOnDisk record_path step_path does) (FailsOnDisk record_path step_path fails)) s r t

-- the exit status: zero where a record was stored
abbrev pub record_status : {E : Type 0} → Result Recording E → ℕ
record_status (Ok Recorded) = 0
record_status (Ok (Faulty f n)) = 1
record_status (Ok (Different d)) = 1
record_status (Err e) = 1
