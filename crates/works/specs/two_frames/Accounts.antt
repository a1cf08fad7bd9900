-- What comes of two frames: what `record`, `near` and `inspect` give, one after the other, and a last line.
use Rattle.std.specs.Prelude.{◌≡◌, ℕ, if◌then◌else◌, ◌==◌, List, [], ◌++◌, length, codes, unwrap_or}
use Rattle.hosts.specs.Writing.{Written, printing, output_in, store_in}
use Rattle.inspection.specs.Sheets.{Sheet, sheet_of}
use Rattle.near_faces.specs.Covering.{FarApart, WholeSheetApart}
use Rattle.frames.specs.Frames.{Frames, faces_of, step_between}
use Rattle.frames.specs.Outcomes.{outcome}
use Rattle.frames.specs.declared.frame_files.Recording.{Recording}
use Rattle.frames.specs.declared.frame_files.Recording.TheVariants.{Recorded, Faulty, Different}
use Rattle.pairing.specs.Pairings.{pairing}
use Rattle.plan.specs.Plans.{Plan, plan, sheet}
use Rattle.plan.specs.declared.endings.Ending.{Ending}
use Rattle.plan.specs.declared.endings.Ending.TheVariants as plan_ending
use Rattle.works.specs.inspect.Plans.{plan_written, walk, ClaimOfPlan}
use Rattle.works.specs.two_frames.Lines.{last_line}
use Rattle.works.specs.declared.two_frames.endings.FramesEnding.{FramesEnding}
use Rattle.works.specs.declared.two_frames.endings.FramesEnding.TheVariants as ending

-- ---- the plan of a sheet and its step: with its near pairs
abbrev pub paired_plan : List ℕ → List ℕ → Plan
paired_plan text bytes = plan text bytes (unwrap_or (pairing text bytes).stored [])

-- the record of the step between two frames
abbrev pub record_between : Frames → List ℕ
record_between f = unwrap_or (outcome f).stored []

-- ---- how many of its pairs are refused
abbrev pub refused_count : Plan → ℕ
refused_count p = length (walk p).refused

abbrev pub ending_by : ℕ → FramesEnding
ending_by n = if n == 0 then ending.Covered else ending.Refused n

-- ---- all that is printed, and the bytes of the refused pairs, which are stored; and how it ends
pub record Account : Type 0 where
  pub all : List Written
  pub ending : FramesEnding

-- behind what is printed and stored of the pairs, of which so many are refused
abbrev pub ends_refusing : List Written → ℕ → Account
ends_refusing all n =
    record { all = all ++ printing (last_line n ++ codes "\n"); ending = ending_by n }

-- of a plan whose sheet and step have no fault
abbrev pub inspected : Plan → Account
inspected p = ends_refusing (plan_written p) (refused_count p)

-- nothing but this is printed
abbrev pub ends_there : List ℕ → FramesEnding → Account
ends_there line e = record { all = printing line; ending = e }

-- this is printed first
abbrev pub behind : List ℕ → Account → Account
behind line rest = record { all = printing line ++ rest.all; ending = rest.ending }

-- behind the line of the pairs
abbrev pub after_pairing : List ℕ → Ending → Account → Account
after_pairing line plan_ending.Complete rest = behind line rest
after_pairing line (plan_ending.Faulty n) rest = ends_there line (ending.Unsearched n)

-- behind the line of the step
abbrev pub after_recording : List ℕ → Recording → Account → Account
after_recording line Recorded rest = behind line rest
after_recording line (Faulty file n) rest = ends_there line (ending.Faulty file n)
after_recording line (Different d) rest = ends_there line (ending.Different d)

-- of a sheet and its step
abbrev pub searched : List ℕ → List ℕ → Account
searched text bytes =
    let o = pairing text bytes in
    after_pairing o.line o.answer (inspected (paired_plan text bytes))

abbrev pub account : Frames → Account
account f =
    let o = outcome f in
    after_recording o.line o.answer (searched f.start (record_between f))

-- all that is printed, and the bytes of the refused pairs
abbrev pub account_text : Frames → List ℕ
account_text f = output_in (account f).all

abbrev pub account_refused : Frames → List ℕ
account_refused f = store_in (account f).all

-- ---- what may be claimed of a sheet, by a plan of it with its near pairs
-- where no pair is refused, of every two different faces: whatever shares no point and is not listed
-- stays apart for the whole step; where some are, of the other pairs, near and far
abbrev pub ClaimsOver : Sheet → Plan → FramesEnding → Type 0
ClaimsOver s p ending.Covered =
    let found = (walk p).found in
    (sheet p ≡ s) × WholeSheetApart s found.entries.vf found.entries.ee × ClaimOfPlan p
ClaimsOver s p (ending.Refused n) = (sheet p ≡ s) × FarApart s × ClaimOfPlan p
ClaimsOver s p e = Unit {0}

-- the sheet that moves from the first frame to the second
abbrev pub sheet_between : Frames → Sheet
sheet_between f = sheet_of (step_between f) (faces_of f.start)

abbrev pub Claims : Frames → FramesEnding → Type 0
Claims f e = ClaimsOver (sheet_between f) (paired_plan f.start (record_between f)) e
