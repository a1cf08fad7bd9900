-- Two frames in memory.
use Rattle.frames.specs.Frames.{Frames, frames}
use Rattle.frames.specs.declared.memory.FrameTexts.{FrameTexts}

-- what is left to read
abbrev pub frames_in : FrameTexts → Frames
frames_in t = frames t.start.now t.end.now
