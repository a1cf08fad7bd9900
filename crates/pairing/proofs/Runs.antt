-- A plan that was read, and then what comes of it was written.
use Rattle.std.proofs.Common.{◌≡◌, List, Ok, Err, Result, sym, ap, ◌∙◌}
use Rattle.hosts.specs.Events.{Event, Call}
use Rattle.hosts.specs.Outcomes.{Reads}
use Rattle.hosts.specs.Writing.{Written, printing, Writes, Outcome, or_tells, writes_of}
use Rattle.hosts.proofs.Outcomes.{read_then_written, not_read}
use Rattle.sheet.specs.declared.drafts.Draft.{Draft}
use Rattle.sheet.specs.declared.notices.Notice.{Notice}
use Rattle.sheet.specs.declared.rows.Point.{Point}
use Rattle.sheet.specs.declared.rows.Face.{Face}
use Rattle.near_faces.specs.Near.{near_pairs}
use Rattle.plan.specs.Notices.{notice_line}
use Rattle.plan.specs.Plans.{Plan, bytes_of, same_plan_file, draft, sheet, needed_files}
use Rattle.plan.specs.Reading.{PlanSays, PlanRead}
use Rattle.plan.specs.declared.endings.Ending.{Ending}
use Rattle.plan.specs.declared.endings.Ending.TheVariants.{Faulty}
use Rattle.plan.specs.declared.plan_files.PlanFile.{PlanFile}
use Rattle.plan.specs.declared.plan_files.PlanFile.TheVariants.{Sheet, Step}
use Rattle.pairing.specs.Pairings.{search_fault, told_fault, paired, pairing}
use Rattle.pairing.specs.inner.Tables.{pairing_in}
use Rattle.pairing.specs.Works.{EndsPairing, FindsPairs}
use Rattle.pairing.proofs.Near.{same_pairing, serves}

abbrev all_of : Plan → List Written
all_of p = writes_of (pairing p.sheet p.step)

module _ {S E : Type 0} (does : S → Event PlanFile → S → Type 0) (fails : S → Call PlanFile → E → S → Type 0) (ps : List Point) (fs : List Face) (s t : S) where
  as_read : (r : Result (Result Draft Notice) E) → PlanRead does fails ps fs s r t → Reads same_plan_file bytes_of needed_files does fails (λ p x. PlanSays p ps fs x) s r t
  unfolding PlanRead
  as_read (Ok x) read =
      record { events = read.events; went = read.went; good = record { reads_only = read.good.reads_only; says = λ p h. read.good.says p (h Sheet) (h Step) } }
  as_read (Err e) read =
      record { events = read.events; call = read.call; before = read.before; went = read.went; failed = read.failed; part = record { reads_only = read.part.reads_only; files = read.part.files } }

  -- ---- a file could not be read; a fault was found; the tables hold the plan
  pub unread : (e : E) (r : Result Ending E) → PlanRead does fails ps fs s (Err e) t → r ≡ Err e → FindsPairs does fails s r t
  unfolding FindsPairs
  unread e r read is = not_read same_plan_file bytes_of needed_files does fails (λ p x. PlanSays p ps fs x) all_of EndsPairing s t e r (as_read (Err e) read) is

  module _ (u : S) (r : Result Ending E) where
    -- this comes of all plans that say what was read
    ends_so : (x : Result Draft Notice) (o : Outcome Ending) → ((p : Plan) → PlanSays p ps fs x → pairing p.sheet p.step ≡ o)
        → PlanRead does fails ps fs s (Ok x) t → Writes does fails (writes_of o) o.answer t r u → FindsPairs does fails s r u
    unfolding FindsPairs
    ends_so x o comes read written =
        read_then_written same_plan_file bytes_of needed_files does fails (λ p x. PlanSays p ps fs x) all_of EndsPairing s t u x (writes_of o) (λ end. end ≡ o.answer) r (as_read (Ok x) read)
        (λ p says. (ap writes_of (comes p says), λ end is. record { ending = is ∙ sym (ap (λ o. o.answer) (comes p says)); serves = serves p })) written

    pub faulty : (n : Notice) → PlanRead does fails ps fs s (Ok (Err n)) t → Writes does fails (printing (notice_line n)) (Faulty n) t r u → FindsPairs does fails s r u
    faulty n = ends_so (Err n) (told_fault n) (λ p says. ap (λ o. or_tells o told_fault (or_tells (search_fault p) told_fault (paired (draft p).faces (near_pairs (sheet p))))) says)

    pub searched : (d : Draft) → PlanRead does fails ps fs s (Ok (Ok d)) t → (let o = pairing_in d ps fs in Writes does fails (writes_of o) o.answer t r u) → FindsPairs does fails s r u
    searched d = ends_so (Ok d) (pairing_in d ps fs) (λ p says. sym (same_pairing p d ps fs says.0 says.1))
