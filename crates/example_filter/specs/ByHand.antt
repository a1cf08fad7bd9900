-- What a crew's calls come to: the faces f and g are offered, and the other way round at depth 3,
-- while a reviewer has an entry.
use Rattle.std.specs.Prelude.{◌≡◌, ℕ, Bool, List, [], ◌∷◌, Ok, Err, Option, Result}
use Rattle.sheet.specs.Checks.{first_fit}
use Rattle.sheet.specs.declared.drafts.Draft.{Draft}
use Rattle.sheet.specs.declared.notices.Notice.{Notice}
use Rattle.sheet.specs.declared.rows.Point.{Point}
use Rattle.sheet.specs.declared.rows.Face.{Face}
use Rattle.motion.specs.declared.shapes.Shape.{Shape}
use Rattle.inspection.specs.declared.classes.Counts.{Counts}
use Rattle.inspection.specs.declared.faults.OfferFault.{OfferFault}
use Rattle.inspection.specs.declared.faults.TakingFault.{TakingFault}
use Rattle.inspection.specs.declared.lists.Lists.{Lists}
use Rattle.inspection.specs.declared.slips.Handed.TheVariants.{Seen}
use Rattle.inspection.specs.declared.slips.RefusedSlip.{RefusedSlip}
use Rattle.inspection.specs.declared.slips.Slip.{Slip}
use Rattle.motion.specs.declared.shapes.Kind.TheVariants.{Vf, Ee}
use Rattle.inspection.specs.Tallies.{tally_in}
use Rattle.inspection.specs.Lists.{Contents}
use Rattle.inspection.specs.declared.offerings.Offering.{Offering}
use Rattle.inspection.specs.declared.offerings.Offering.TheVariants.{Faces}
use Rattle.inspection.specs.Sheets.{Sheet, sheet_in}
use Rattle.inspection.specs.Slips.{HandsIn}
use Rattle.inspection.specs.States.{Core, State, with_depth}
use Rattle.inspection.specs.Offers.{offer_checks, OfferCall}
use Rattle.inspection.specs.Runs.{Accepted, Brings, Run, history_after}
use Rattle.inspection.specs.Claims.{WholeClaim}

-- the depth set to 3
abbrev pub deeper : State → State
deeper s = record s { core = with_depth 3 s.core }

-- the counts of both kinds of tests
abbrev pub counts_in : Core → Counts
counts_in c = record { vf = tally_in Vf c.tallies; ee = tally_in Ee c.tallies }

-- a slip that was given is handed in as seen
abbrev pub HandsBack : Result Slip TakingFault → Lists → Lists → Type 0
HandsBack (Ok x) s t = (r : Result (Unit {0}) RefusedSlip) × HandsIn x Seen s r t
HandsBack (Err e) s t = t ≡ s

-- the same but for its marks
abbrev pub SameButMarks : {E : Type 0} → Contents E → Contents E → Type 0
SameButMarks g h = h ≡ record g { marks = h.marks }

-- by a filter's set, over these tables
module _ (set : Shape → Bool) (ps : List Point) (fs : List Face) where
  -- the fault of an offer in the state s
  unfoldable pub fault_of_offer : Offering → State → Option Notice
  fault_of_offer o s = first_fit (offer_checks set ps fs o s)

  -- this is offered in the state s while a reviewer has an entry of the VF list, and t is left when
  -- its slip is handed in
  pub record OfferedMeanwhile
      (o : Offering) (s : State) (r : Result (Unit {0}) OfferFault) (t : State) : Type 0 where
    -- all but marks is as without the reviewer
    pub after : State
    pub offer : OfferCall set ps fs o s r after
    pub core : t.core ≡ after.core
    pub vf : SameButMarks after.lists.vf t.lists.vf
    pub ee : t.lists.ee ≡ after.lists.ee
    -- whatever run with no slip out ends in s, it goes on to t with none out, and to the claim
    pub run : (d : Draft) (sheet : Sheet) (history : List Accepted)
        → Brings d ps fs sheet → Run set d sheet history [] s
        → Run set d sheet (history_after history o s.core.depth r) [] t
    pub claim : (d : Draft) (sheet : Sheet) (history : List Accepted)
        → Brings d ps fs sheet → Run set d sheet history [] s
        → WholeClaim set d sheet (history_after history o s.core.depth r)
        t.core t.lists.vf.entries t.lists.ee.entries

  -- from a start on, where the first offer is accepted: the counts that are told and the lists
  pub record Offered (f g : ℕ) (start : State) (counts : Counts) (lists : Lists) : Type 0 where
    pub middle : State
    pub first : OfferCall set ps fs (Faces f g) start (Ok tt) middle
    pub core : Core
    pub answer : Result (Unit {0}) OfferFault
    pub second : OfferedMeanwhile (Faces g f) (deeper middle) answer
        (record { core = core; lists = lists })
    pub counted : counts ≡ counts_in core
    pub claim :
        let once : List Accepted = record { what = Faces f g; depth = start.core.depth } ∷ [] in
        let d = start.core.draft in
        WholeClaim set d (sheet_in d ps fs) (history_after once (Faces g f) 3 answer)
        core lists.vf.entries lists.ee.entries
