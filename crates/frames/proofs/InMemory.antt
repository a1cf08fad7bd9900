-- What two frames in memory come to.
use Rattle.std.proofs.Common.{◌≡◌, ℕ, List, [], unwrap_or, Ok, subst}
use Rattle.hosts.specs.Memory.{Remembers}
use Rattle.hosts.specs.Outcomes.{ReadsAndWrites}
use Rattle.hosts.specs.Pages.{NeverFails}
use Rattle.hosts.specs.inner.Filling.{Filled}
use Rattle.hosts.specs.Writing.{writes_of}
use Rattle.hosts.specs.declared.memories.Memory.{Memory}
use Rattle.hosts.proofs.Outcomes as outcomes
use Rattle.hosts.proofs.Writing.{output-writes_of, store-writes_of}
use Rattle.frames.specs.Frames.{text_of, same_frame, needed_frames}
use Rattle.frames.specs.Memory.{frames_in}
use Rattle.frames.specs.Outcomes.{outcome}
use Rattle.frames.specs.Works.{EndsRecording, Records}
use Rattle.frames.specs.declared.frame_files.FrameFile.{FrameFile}
use Rattle.frames.specs.declared.frame_files.Recording.{Recording}
use Rattle.frames.specs.declared.memory.FrameTexts.{FrameTexts}

abbrev texts_left : FrameTexts → FrameFile → List ℕ
texts_left t = text_of (frames_in t)

module _ (m n : Memory FrameTexts) (came : Recording) (run : Records (Remembers same_frame texts_left) NeverFails m (Ok came) n) where
  went : ReadsAndWrites same_frame text_of needed_frames (Remembers same_frame texts_left) NeverFails (λ f. writes_of (outcome f)) EndsRecording m (Ok came) n
  unfolding Records
  went = run

  pub answered : came ≡ (outcome (frames_in m.files)).answer
  answered = (outcomes.answered same_frame text_of needed_frames frames_in (λ f. writes_of (outcome f)) EndsRecording m n came went).answer

  pub line_shown : Filled m.printed.now n.printed.now (outcome (frames_in m.files)).line
  line_shown = subst (Filled m.printed.now n.printed.now) (output-writes_of (outcome (frames_in m.files))) (outcomes.output_shown same_frame text_of needed_frames frames_in (λ f. writes_of (outcome f)) EndsRecording m n came went)

  pub record_shown : Filled m.stored.now n.stored.now (unwrap_or (outcome (frames_in m.files)).stored [])
  record_shown = subst (Filled m.stored.now n.stored.now) (store-writes_of (outcome (frames_in m.files))) (outcomes.store_shown same_frame text_of needed_frames frames_in (λ f. writes_of (outcome f)) EndsRecording m n came went)

  pub same_line : n.printed.ghost_name ≡ m.printed.ghost_name
  same_line = outcomes.same_output same_frame text_of needed_frames frames_in (λ f. writes_of (outcome f)) EndsRecording m n came went

  pub same_kept : n.stored.ghost_name ≡ m.stored.ghost_name
  same_kept = outcomes.same_store same_frame text_of needed_frames frames_in (λ f. writes_of (outcome f)) EndsRecording m n came went
