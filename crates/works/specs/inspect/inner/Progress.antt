-- How far a run has come: the inspection that has made a walk, the pairs that are offered to it, and
-- what is written of them.
use Rattle.std.specs.Prelude.{◌≡◌, ℕ, ◌+◌, ◌%◌, Bool, IsTrue, IsFalse, All, List, [], ◌++◌, length, replicate, flat_map, None, Result}
use Rattle.hosts.specs.Events.{Event, Call, Reading, files_read, bytes_asked, bytes_came, unread}
use Rattle.hosts.specs.Works.{IsFront, Worked}
use Rattle.hosts.specs.Writing.{written, WritesSo}
use Rattle.sheet.specs.Checks.{first_fit}
use Rattle.sheet.specs.declared.drafts.Draft.{Draft}
use Rattle.sheet.specs.declared.notices.Notice.{Notice}
use Rattle.sheet.specs.declared.rows.Point.{Point}
use Rattle.sheet.specs.declared.rows.Face.{Face}
use Rattle.motion.specs.declared.shapes.Shape.{Shape}
use Rattle.motion.specs.Rows.{delivered}
use Rattle.inspection.specs.Lists.{Contents}
use Rattle.inspection.specs.Offers.{lacks_rows}
use Rattle.inspection.specs.declared.offerings.Offering.{Offering}
use Rattle.inspection.specs.Runs.{Run}
use Rattle.inspection.specs.Sheets.{Sheet, sheet_in}
use Rattle.inspection.specs.States.{State, Entries, entries_of}
use Rattle.inspection.specs.Tests.{Naming, vf_naming, ee_naming}
use Rattle.plan.specs.PairBytes.{offerings_in}
use Rattle.report.specs.Reports.{len_checks}
use Rattle.plan.specs.Plans.{Plan, same_plan_file, FitsFile, draft, sheet}
use Rattle.plan.specs.Reading.{HoldsPlan}
use Rattle.works.specs.inspect.Plans.{plan_written, ClaimOfPlan}
use Rattle.works.specs.inspect.Walks.{Walk, Found, room, refusal_written, just_opened, walked, refusals_written}
use Rattle.plan.specs.declared.endings.Ending.{Ending}
use Rattle.plan.specs.declared.endings.Ending.TheVariants.{Complete}
use Rattle.plan.specs.declared.plan_files.PlanFile.{PlanFile}
use Rattle.plan.specs.declared.plan_files.PlanFile.TheVariants.{Pairs}

-- ---- an inspection
-- a list has its room, and what is listed has numbers of the sheet
pub record Listed {E : Type 0} (n : Naming E) (sheet : Sheet) (list : Contents E) : Type 0 where
  pub room : length list.entries + length list.rest ≡ room
  pub inside : All (λ e. IsTrue (n.inside sheet e)) list.entries

abbrev pub found_in : State → Found
found_in s = record { core = s.core; entries = entries_of s.lists }

-- an inspection in the state s has made the walk, over tables that hold the draft's sheet
pub record Made
    (set : Shape → Bool) (d : Draft) (ps : List Point) (fs : List Face) (w : Walk) (s : State)
    : Type 0 where
  pub draft : s.core.draft ≡ d
  pub found : found_in s ≡ w.found
  pub rows : IsFalse (lacks_rows s.core.draft ps fs)
  pub vf : Listed vf_naming (sheet_in s.core.draft ps fs) s.lists.vf
  pub ee : Listed ee_naming (sheet_in s.core.draft ps fs) s.lists.ee
  pub run : Run set s.core.draft (sheet_in s.core.draft ps fs) w.accepted [] s

-- an inspection in the state s is just opened: over any tables of the draft's rows
unfoldable pub Begins : Draft → State → Type 0
Begins d s =
    (ps : List Point) (fs : List Face) → IsFalse (lacks_rows d ps fs)
    → Made delivered d ps fs (just_opened d) s

-- no check of a report fits: its tables are there, and what is listed is of the sheet
unfoldable pub Reportable : Draft → List Point → List Face → Entries → Type 0
Reportable d ps fs es = None ≡ first_fit (len_checks d ps fs es)

-- ---- pairs are offered
module _ {S F E X : Type 0} (does : S → Event F → S → Type 0) (fails : S → Call F → E → S → Type 0) where
  -- why a pair is refused is printed, and the pair stored
  unfoldable pub Tells : Notice → Offering → S → Result X E → S → Type 0
  Tells n o h r h' =
      WritesSo does fails (refusal_written (record { pair = o; why = n })) (λ x. Unit {0}) h r h'

  -- from the state s to t: whatever walk s has made, t has made it further, and what is refused then
  -- is written
  unfoldable pub Offers : (Shape → Bool) → List Point → List Face → List Offering → State → State
      → S → Result X E → S → Type 0
  Offers set ps fs os s t h r h' =
      (d : Draft) (w : Walk) → Made set d ps fs w s
      → let sheet = sheet_in d ps fs in
      WritesSo does fails (refusals_written set sheet w os)
      (λ x. Made set d ps fs (walked set sheet w os) t) h r h'

-- ---- the pairs of the file, a piece at a time
-- of the pairs of the plan's file, those that came
abbrev pub pairs_came : List (Event PlanFile) → List Offering
pairs_came es = offerings_in (bytes_came (same_plan_file Pairs) es)

-- so far each piece was full, and held whole pairs
pub record IsFull (es : List (Event PlanFile)) : Type 0 where
  pub count : bytes_asked (same_plan_file Pairs) es ≡ length (bytes_came (same_plan_file Pairs) es)
  pub whole : length (bytes_came (same_plan_file Pairs) es) % 4 ≡ 0

-- the file came to its end
pub record IsWhole (es : List (Event PlanFile)) : Type 0 where
  pub whole : (bytes : List ℕ) → FitsFile Pairs bytes es → bytes ≡ bytes_came (same_plan_file Pairs) es

module _ (set : Shape → Bool) (d : Draft) (ps : List Point) (fs : List Face) (w : Walk) where
  -- what came was offered, and what was refused is written
  pub record PiecesOffered {X : Type 0} (Came : List (Event PlanFile) → Type 0) (t : State) (es : List (Event PlanFile)) (x : X) : Type 0 where
    pub pieces : ℕ
    pub files : files_read es ≡ replicate pieces Pairs
    pub came : Came es
    pub all : written es ≡ refusals_written set (sheet_in d ps fs) w (pairs_came es)
    pub made : Made set d ps fs (walked set (sheet_in d ps fs) w (pairs_came es)) t

  -- a front of it is, and all where reading fails
  pub record PiecesOfferedInPart (es : List (Event PlanFile)) (call : Call PlanFile) : Type 0 where
    pub pieces : ℕ
    pub files : files_read es ++ unread call ≡ replicate pieces Pairs
    pub first : (bytes : List ℕ) → FitsFile Pairs bytes es → IsFront (pairs_came es) (offerings_in bytes)
    pub part : IsFront (written es) (refusals_written set (sheet_in d ps fs) w (pairs_came es))
    pub all : (f : PlanFile) → call ≡ Reading f → written es ≡ refusals_written set (sheet_in d ps fs) w (pairs_came es)

module _ {S E X : Type 0} (does : S → Event PlanFile → S → Type 0) (fails : S → Call PlanFile → E → S → Type 0) where
  unfoldable pub OffersPieces : (List (Event PlanFile) → Type 0) → (Shape → Bool) → List Point → List Face → State → State
      → S → Result X E → S → Type 0
  OffersPieces Came set ps fs s t h r h' =
      (d : Draft) (w : Walk) → Made set d ps fs w s
      → Worked does fails (PiecesOffered set d ps fs w Came t) (PiecesOfferedInPart set d ps fs w) h r h'

-- ---- over tables that hold a plan
module _ (d : Draft) (ps : List Point) (fs : List Face) where
  -- its pairs are offered and what is found is printed: all of it is written, and holds
  pub record PairsInspected (es : List (Event PlanFile)) (end : Ending) : Type 0 where
    pub ending : end ≡ Complete
    pub pieces : ℕ
    pub files : files_read es ≡ replicate pieces Pairs
    pub all : (p : Plan) → HoldsPlan p d ps fs → FitsFile Pairs p.pairs es → written es ≡ plan_written p
    pub claim : (p : Plan) → HoldsPlan p d ps fs → FitsFile Pairs p.pairs es → ClaimOfPlan p

  -- a front of it is written, and where reading fails all of the pairs that came
  pub record PairsInspectedInPart (es : List (Event PlanFile)) (call : Call PlanFile) : Type 0 where
    pub pieces : ℕ
    pub files : files_read es ++ unread call ≡ replicate pieces Pairs
    pub part : (p : Plan) → HoldsPlan p d ps fs → FitsFile Pairs p.pairs es → IsFront (written es) (plan_written p)
    pub all : (f : PlanFile) → call ≡ Reading f → (p : Plan) → HoldsPlan p d ps fs
        → written es ≡ flat_map refusal_written (walked delivered (sheet p) (just_opened (draft p)) (pairs_came es)).refused

module _ {S E : Type 0} (does : S → Event PlanFile → S → Type 0) (fails : S → Call PlanFile → E → S → Type 0) where
  unfoldable pub InspectsFile : Draft → List Point → List Face → S → Result Ending E → S → Type 0
  InspectsFile d ps fs s r t = Worked does fails (PairsInspected d ps fs) (PairsInspectedInPart d ps fs) s r t
