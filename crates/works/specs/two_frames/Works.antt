-- What a run from two frames comes to, whatever bytes the files have beyond those that came.
use Rattle.std.specs.Prelude.{◌≡◌, List, length, map, take, Some, None, Option, Result}
use Rattle.hosts.specs.Events.{Event, Call}
use Rattle.hosts.specs.Outcomes.{ReadsAndWrites}
use Rattle.hosts.specs.Writing.{WritesSo}
use Rattle.sheet.specs.Checks.{first_fit}
use Rattle.sheet.specs.declared.drafts.Draft.{Draft}
use Rattle.sheet.specs.declared.notices.Notice.{Notice}
use Rattle.sheet.specs.declared.rows.Point.{Point}
use Rattle.sheet.specs.declared.rows.Face.{Face}
use Rattle.motion.specs.Rows.{delivered}
use Rattle.inspection.specs.Claims.{WholeClaim}
use Rattle.inspection.specs.Sheets.{sheet_in}
use Rattle.near_faces.specs.declared.pairs.Pair.{Pair}
use Rattle.near_faces.specs.Near.{near_pairs}
use Rattle.near_faces.specs.Searches.{search_checks}
use Rattle.frames.specs.Frames.{Frames, text_of, same_frame, needed_frames}
use Rattle.frames.specs.Outcomes.{with_line_feed, line_of_step}
use Rattle.frames.specs.declared.frame_files.FrameFile.{FrameFile}
use Rattle.frames.specs.declared.frame_files.NoStep.{NoStep}
use Rattle.frames.specs.declared.frame_files.NoStep.TheVariants as no
use Rattle.pairing.specs.Pairings.{node_room, pair_room, pairs_line}
use Rattle.plan.specs.Notices.{notice_line}
use Rattle.near_faces.specs.Near.{offering_of}
use Rattle.works.specs.inspect.Rows.{walk_over, rows_written}
use Rattle.works.specs.two_frames.Accounts.{Account, account, account_text, account_refused, behind, ends_there, ends_refusing, sheet_between, Claims}
use Rattle.works.specs.two_frames.Settled.{SettlesFrames}
use Rattle.works.specs.declared.two_frames.endings.FramesEnding.{FramesEnding}
use Rattle.works.specs.declared.two_frames.endings.FramesEnding.TheVariants.{Unsearched, Faulty, Different}

-- ---- where there is no step
abbrev pub without_step : NoStep → FramesEnding
without_step (no.Faulty file n) = Faulty file n
without_step (no.Different d) = Different d

-- ---- over tables that hold a sheet with its step
module _ (d : Draft) (ps : List Point) (fs : List Face) where
  -- with these pairs
  abbrev pub pairs_account : List Pair → Account
  pairs_account pairs =
      let s = sheet_in d ps fs in
      let os = map offering_of pairs in
      behind (pairs_line d.faces (length pairs))
      (ends_refusing (rows_written d s os) (length (walk_over d s os).refused))

  pub record PairsEnd (pairs : List Pair) (e : FramesEnding) : Type 0 where
    pub ending : e ≡ (pairs_account pairs).ending
    pub claim : let s = sheet_in d ps fs in
        let w = walk_over d s (map offering_of pairs) in
        WholeClaim delivered d s w.accepted w.found.core w.found.entries.vf w.found.entries.ee

  -- with the near pairs, or the fault of the search
  abbrev pub search_account : Option Notice → Account
  search_account (Some n) = ends_there (notice_line n) (Unsearched n)
  search_account None = pairs_account (near_pairs (sheet_in d ps fs))

  abbrev pub SearchEnds : Option Notice → FramesEnding → Type 0
  SearchEnds (Some n) e = e ≡ Unsearched n
  SearchEnds None e = PairsEnd (near_pairs (sheet_in d ps fs)) e

  abbrev pub search_fault_in : Option Notice
  search_fault_in = first_fit (search_checks d ps fs node_room pair_room)

  -- behind the line of the step
  abbrev pub step_account : Account
  step_account =
      behind (with_line_feed (line_of_step (take d.points ps))) (search_account search_fault_in)

  module _ {S F E : Type 0} (does : S → Event F → S → Type 0) (fails : S → Call F → E → S → Type 0) where
    unfoldable pub InspectsNearPairs : List Pair → S → Result FramesEnding E → S → Type 0
    InspectsNearPairs pairs s r t = WritesSo does fails (pairs_account pairs).all (PairsEnd pairs) s r t

    unfoldable pub InspectsStep : S → Result FramesEnding E → S → Type 0
    InspectsStep s r t = WritesSo does fails step_account.all (SearchEnds search_fault_in) s r t

-- ---- what it answers to its end
pub record EndsFrames (f : Frames) (e : FramesEnding) : Type 0 where
  pub ending : e ≡ (account f).ending
  pub claims : Claims f e
  -- so say the lines that are printed
  pub settles : SettlesFrames (sheet_between f) (account_text f) (account_refused f)

-- ---- all that it can come to: the frames that are needed are read, in their order, and no others, and
-- all of the account is printed and stored; or a call fails, and ends it
unfoldable pub InspectsFrames : {S E : Type 0} → (S → Event FrameFile → S → Type 0)
    → (S → Call FrameFile → E → S → Type 0) → S → Result FramesEnding E → S → Type 0
InspectsFrames does fails s r t =
    ReadsAndWrites same_frame text_of needed_frames does fails (λ f. (account f).all) EndsFrames s r t
