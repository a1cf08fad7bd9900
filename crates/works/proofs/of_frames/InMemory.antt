-- What two frames in memory come to.
use Rattle.std.proofs.Common.{◌≡◌, ℕ, List, Ok}
use Rattle.hosts.specs.Memory.{Remembers}
use Rattle.hosts.specs.Outcomes.{ReadsAndWrites}
use Rattle.hosts.specs.Pages.{NeverFails}
use Rattle.hosts.specs.inner.Filling.{Filled}
use Rattle.hosts.specs.Writing.{Written}
use Rattle.hosts.specs.declared.memories.Memory.{Memory}
use Rattle.hosts.proofs.Outcomes as outcomes
use Rattle.frames.specs.Frames.{Frames, text_of, same_frame, needed_frames}
use Rattle.frames.specs.Memory.{frames_in}
use Rattle.frames.specs.declared.frame_files.FrameFile.{FrameFile}
use Rattle.frames.specs.declared.memory.FrameTexts.{FrameTexts}
use Rattle.works.specs.two_frames.Accounts.{account, account_text, account_refused, sheet_between, Claims}
use Rattle.works.specs.two_frames.Settled.{SettlesFrames}
use Rattle.works.specs.two_frames.Works.{EndsFrames, InspectsFrames}
use Rattle.works.specs.declared.two_frames.endings.FramesEnding.{FramesEnding}

abbrev texts_left : FrameTexts → FrameFile → List ℕ
texts_left t = text_of (frames_in t)

abbrev all_of : Frames → List Written
all_of f = (account f).all

module _ (m n : Memory FrameTexts) (end : FramesEnding) (run : InspectsFrames (Remembers same_frame texts_left) NeverFails m (Ok end) n) where
  went : ReadsAndWrites same_frame text_of needed_frames (Remembers same_frame texts_left) NeverFails all_of EndsFrames m (Ok end) n
  unfolding InspectsFrames
  went = run

  answers : EndsFrames (frames_in m.files) end
  answers = outcomes.answered same_frame text_of needed_frames frames_in all_of EndsFrames m n end went

  pub ended : end ≡ (account (frames_in m.files)).ending
  ended = answers.ending

  pub claimed : Claims (frames_in m.files) end
  claimed = answers.claims

  pub settled : SettlesFrames (sheet_between (frames_in m.files)) (account_text (frames_in m.files)) (account_refused (frames_in m.files))
  settled = answers.settles

  pub page_shown : Filled m.printed.now n.printed.now (account_text (frames_in m.files))
  page_shown = outcomes.output_shown same_frame text_of needed_frames frames_in all_of EndsFrames m n end went

  pub refused_shown : Filled m.stored.now n.stored.now (account_refused (frames_in m.files))
  refused_shown = outcomes.store_shown same_frame text_of needed_frames frames_in all_of EndsFrames m n end went

  pub same_page : n.printed.ghost_name ≡ m.printed.ghost_name
  same_page = outcomes.same_output same_frame text_of needed_frames frames_in all_of EndsFrames m n end went

  pub same_refused : n.stored.ghost_name ≡ m.stored.ghost_name
  same_refused = outcomes.same_store same_frame text_of needed_frames frames_in all_of EndsFrames m n end went
