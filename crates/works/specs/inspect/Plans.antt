-- What a plan's files make `inspect` print, store and end with, and what it may claim then.
use Rattle.std.specs.Prelude.{◌≡◌, ℕ, Bool, List, [], ◌++◌, flat_map, Some, None, Option, replicate}
use Rattle.hosts.specs.Works.{unless_found}
use Rattle.hosts.specs.Writing.{Written, printing}
use Rattle.sheet.specs.declared.notices.Notice.{Notice}
use Rattle.motion.specs.declared.shapes.Shape.{Shape}
use Rattle.motion.specs.Rows.{delivered}
use Rattle.inspection.specs.Claims.{Agree, WholeClaim}
use Rattle.plan.specs.Notices.{notice_line}
use Rattle.plan.specs.PairBytes.{offerings_in}
use Rattle.plan.specs.Plans.{Plan, draft, sheet, fault, needed_files}
use Rattle.plan.specs.declared.endings.Ending.TheVariants.{Complete, Faulty}
use Rattle.plan.specs.declared.plan_files.PlanFile.{PlanFile}
use Rattle.plan.specs.declared.plan_files.PlanFile.TheVariants.{Pairs}
use Rattle.report.specs.Reports.{View, report_text}
use Rattle.works.specs.inspect.Printouts.{Printout}
use Rattle.works.specs.inspect.Walks.{Walk, Found, refusal_written, just_opened, walked, refusal_lines, refused_pairs}

-- ---- what is printed and stored
-- by a filter of this set
module _ (set : Shape → Bool) (p : Plan) where
  -- all of its pairs, offered one after another
  abbrev pub walk_by : Walk
  walk_by = walked set (sheet p) (just_opened (draft p)) (offerings_in p.pairs)

  abbrev pub report_by : Found → List ℕ
  report_by f =
      let view : View = record { set = set; core = f.core; sheet = sheet p } in
      report_text view f.entries

  -- a line for each pair that is refused, and then the report; or the line of the fault
  abbrev pub printout_of : Option Notice → Printout
  printout_of (Some n) = record { text = notice_line n; stored = []; ending = Faulty n }
  printout_of None =
      record {
        text = refusal_lines walk_by ++ report_by walk_by.found;
        stored = refused_pairs walk_by;
        ending = Complete;
      }

-- by the delivered one
abbrev pub walk : Plan → Walk
walk p = walk_by delivered p

abbrev pub report_of : Plan → Found → List ℕ
report_of p f = report_by delivered p f

abbrev pub printout_by : Plan → Option Notice → Printout
printout_by p n = printout_of delivered p n

abbrev pub printout : Plan → Printout
printout p = printout_by p (fault p)

-- the same as it is written, byte by byte
abbrev pub plan_written_by : Plan → Option Notice → List Written
plan_written_by p (Some n) = printing (notice_line n)
plan_written_by p None =
    flat_map refusal_written (walk p).refused ++ printing (report_of p (walk p).found)

abbrev pub plan_written : Plan → List Written
plan_written p = plan_written_by p (fault p)

-- whatever filter of a set that agrees, by it the same is printed and stored
abbrev pub PrintsAlike : Plan → Type 0
PrintsAlike p =
    (other : Shape → Bool) → Agree delivered other
    → printout_of other p (fault p) ≡ printout p

-- ---- which files are needed: after a fault no more, else the pairs too, in so many pieces
abbrev pub all_needed : Plan → ℕ → List PlanFile
all_needed p n = needed_files p ++ unless_found (fault p) (replicate n Pairs)

-- ---- what nobody can say of the pairs that are not refused: that a touch is missed
abbrev pub ClaimOfPlan : Plan → Type 0
ClaimOfPlan p =
    let w = walk p in
    fault p ≡ None
    → WholeClaim delivered (draft p) (sheet p) w.accepted w.found.core w.found.entries.vf w.found.entries.ee
