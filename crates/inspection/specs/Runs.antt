-- What a run of an inspection is: from an opening on, any calls, refused ones included, and among
-- them takings at its lists and returns there of the slips that they gave.
use Rattle.std.specs.Prelude.{◌≡◌, ℕ, ◌≤◌, Bool, IsFalse, if◌then◌else◌, List, [], ◌∷◌, ◌++◌, Result, is_ok, Ok, Err, nat_lt}
use Rattle.sheet.specs.Checks.{Check, first_fit, fault_notice, check}
use Rattle.sheet.specs.declared.notices.Layer.TheVariants.{Opening}
use Rattle.sheet.specs.declared.rows.Point.{Point}
use Rattle.sheet.specs.declared.rows.Face.{Face}
use Rattle.sheet.specs.declared.drafts.Draft.{Draft}
use Rattle.motion.specs.declared.shapes.Kind.{Kind}
use Rattle.motion.specs.declared.shapes.Shape.{Shape}
use Rattle.inspection.specs.declared.faults.OpeningFault.{OpeningFault}
use Rattle.inspection.specs.declared.faults.OfferFault.{OfferFault}
use Rattle.inspection.specs.declared.faults.TakingFault.{TakingFault}
use Rattle.inspection.specs.declared.slips.Handed.{Handed}
use Rattle.inspection.specs.declared.slips.RefusedSlip.{RefusedSlip}
use Rattle.inspection.specs.declared.slips.Slip.{Slip}
use Rattle.inspection.specs.Faults.{notice_of_opening}
use Rattle.inspection.specs.Offerings.{Offering}
use Rattle.inspection.specs.Sheets.{Sheet, sheet_in}
use Rattle.inspection.specs.Slips.{Takes, HandsIn, out_after_taking, out_after_return}
use Rattle.inspection.specs.States.{Core, State, core_at_start, with_depth}
use Rattle.inspection.specs.Offers.{lacks_rows, OfferCall}

-- ---- openings, and depths set later
abbrev pub depth_checks : ℕ → List Check
depth_checks k = check (nat_lt 6 k) 15 Opening k 0 ∷ []

-- of this draft, at a depth that is not refused, with emptied lists
pub record Opened (d : Draft) (s : State) : Type 0 where
  pub depth : s.core.depth ≤ 6
  pub core : s.core ≡ core_at_start d s.core.depth
  pub vf : s.lists.vf.entries ≡ []
  pub ee : s.lists.ee.entries ≡ []
  pub vf_marks : s.lists.vf.marks ≡ []
  pub ee_marks : s.lists.ee.marks ≡ []

-- the depth k is set: r is answered, and it goes from the one to the other
pub record DepthCall
    (k : ℕ) (before : Core) (r : Result (Unit {0}) OpeningFault) (after : Core) : Type 0 where
  pub fault : fault_notice notice_of_opening r ≡ first_fit (depth_checks k)
  pub core : after ≡ (if is_ok r then with_depth k before else before)

-- ---- runs
-- an accepted offer, with the depth then set
pub record Accepted : Type 0 where
  pub what : Offering
  pub depth : ℕ

abbrev pub history_after : List Accepted → Offering → ℕ → Result (Unit {0}) OfferFault
    → List Accepted
history_after h o k (Ok u) = h ++ (record { what = o; depth = k } ∷ [])
history_after h o k (Err e) = h

-- these tables hold the sheet, as far as its counts go
-- where one is too short they need agree with nothing
abbrev pub Brings : Draft → List Point → List Face → Sheet → Type 0
Brings d ps fs s = IsFalse (lacks_rows d ps fs) → sheet_in d ps fs ≡ s

-- runs of an inspection of this draft, with a filter of this set, over this sheet
-- by their accepted offers, the slips that are out, and the state that they end in
pub data Run (set : Shape → Bool) (d : Draft) (sheet : Sheet)
    : List Accepted → List Slip → State → Type 0 where
  opened : {s : State} → Opened d s → Run set d sheet [] [] s
  -- the depth is set, or that is refused
  depth_set : {h : List Accepted} {out : List Slip} {s : State}
      (k : ℕ) (r : Result (Unit {0}) OpeningFault) (t : State)
      → Run set d sheet h out s → DepthCall k s.core r t.core → t.lists ≡ s.lists
      → Run set d sheet h out t
  -- something is offered, over tables that bring the sheet; it is accepted or refused
  offered : {h : List Accepted} {out : List Slip} {s : State}
      (ps : List Point) (fs : List Face) (o : Offering)
      (r : Result (Unit {0}) OfferFault) (t : State)
      → Run set d sheet h out s → Brings d ps fs sheet → OfferCall set ps fs o s r t
      → Run set d sheet (history_after h o s.core.depth r) out t
  -- an entry is taken, or that is refused
  taken : {h : List Accepted} {out : List Slip} {s : State}
      (l : Kind) (i q : ℕ) (r : Result Slip TakingFault) (t : State)
      → Run set d sheet h out s → Takes l i q s.lists r t.lists → t.core ≡ s.core
      → Run set d sheet h (out_after_taking out r) t
  -- one of the slips that are out is handed in, or comes back
  handed_in : {h : List Accepted} {s : State}
      (before after : List Slip) (x : Slip) (how : Handed)
      (r : Result (Unit {0}) RefusedSlip) (t : State)
      → Run set d sheet h (before ++ (x ∷ after)) s
      → HandsIn x how s.lists r t.lists → t.core ≡ s.core
      → Run set d sheet h (out_after_return before x after r) t
  -- a question: any call that leaves all of this as it was, and the slips that are out
  asked : {h : List Accepted} {out : List Slip} {s : State} (t : State)
      → Run set d sheet h out s → t ≡ s → Run set d sheet h out t
