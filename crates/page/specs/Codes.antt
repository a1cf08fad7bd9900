-- The numbers by which a page learns how a call ended.
use Rattle.std.specs.Prelude.{ℕ}
use Rattle.frames.specs.declared.frame_files.FrameFile.TheVariants.{Start, End}
use Rattle.frames.specs.declared.frame_files.Recording.{Recording}
use Rattle.frames.specs.declared.frame_files.Recording.TheVariants as recording
use Rattle.plan.specs.declared.endings.Ending.{Ending}
use Rattle.plan.specs.declared.endings.Ending.TheVariants as plan_ending
use Rattle.works.specs.declared.two_frames.endings.FramesEnding.{FramesEnding}
use Rattle.works.specs.declared.two_frames.endings.FramesEnding.TheVariants as ending

abbrev pub code_of_plan : Ending → ℕ
code_of_plan plan_ending.Complete = 0
code_of_plan (plan_ending.Faulty n) = 1

abbrev pub code_of_recording : Recording → ℕ
code_of_recording recording.Recorded = 0
code_of_recording (recording.Faulty Start n) = 1
code_of_recording (recording.Faulty End n) = 2
code_of_recording (recording.Different d) = 3

abbrev pub code_of_frames : FramesEnding → ℕ
code_of_frames ending.Covered = 0
code_of_frames (ending.Refused n) = 1
code_of_frames (ending.Unsearched n) = 2
code_of_frames (ending.Faulty Start n) = 3
code_of_frames (ending.Faulty End n) = 4
code_of_frames (ending.Different d) = 5

-- how many pairs were refused
abbrev pub refused_in : FramesEnding → ℕ
refused_in (ending.Refused n) = n
refused_in e = 0
