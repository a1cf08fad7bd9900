-- What the lines settle that `inspect` prints of two frames.
use Rattle.std.specs.Prelude.{◌≡◌, ℕ, List, [], length, Contains, flat_map, count_by}
use Rattle.hosts.specs.Pages.{onto_page}
use Rattle.sheet.specs.Lines.{lines_of}
use Rattle.inspection.specs.declared.offerings.Offering.{Offering}
use Rattle.inspection.specs.Sheets.{Sheet}
use Rattle.report.specs.Settled.{SettledBut, is_fault}
use Rattle.plan.specs.PairBytes.{pair_bytes}
use Rattle.works.specs.two_frames.Lines.{covered_line, refused_line}

-- of a sheet and its step, by this text, and these bytes of the pairs that are refused
pub record SettlesFrames (s : Sheet) (text bytes : List ℕ) : Type 0 where
  -- after `covered all pairs` every two faces are settled
  pub covered : Contains (lines_of text) covered_line → SettledBut [] s text
  -- after `refused N pairs` all but these, which are as many as the lines that tell a fault
  pub refused : List Offering
  pub bytes_are : bytes ≡ flat_map pair_bytes refused
  pub but_refused : (n : ℕ) → Contains (lines_of text) (refused_line n)
      → SettledBut refused s text × (count_by is_fault (lines_of text) ≡ length refused)

-- with these bytes put into the front of lent ones
abbrev pub SettlesFramesOnto : Sheet → List ℕ → List ℕ → List ℕ → Type 0
SettlesFramesOnto s text lent now =
    (bytes : List ℕ) × (now ≡ onto_page bytes lent) × SettlesFrames s text bytes
