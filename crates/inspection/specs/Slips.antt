-- Slips: an entry is taken for a reviewer, and its slip is handed in.
use Rattle.std.specs.Prelude.{◌≡◌, ℕ, Bool, true, false, not, ◌&&◌, if◌then◌else◌, List, [], ◌∷◌, length, ◌++◌, count_by, Result, Ok, Err, is_ok, IfOk, IfErr, nat_le, slice_set, ◌==◌}
use Rattle.sheet.specs.Checks.{Check, first_fit, fault_notice, check}
use Rattle.sheet.specs.declared.notices.Layer.TheVariants as layer
use Rattle.motion.specs.declared.shapes.Kind.{Kind}
use Rattle.motion.specs.declared.shapes.Kind.TheVariants.{Vf, Ee}
use Rattle.inspection.specs.declared.faults.TakingFault.{TakingFault}
use Rattle.inspection.specs.declared.faults.StandingFault.{StandingFault}
use Rattle.inspection.specs.declared.lists.Lists.{Lists}
use Rattle.inspection.specs.declared.marks.Mark.{Mark}
use Rattle.inspection.specs.declared.marks.Mark.TheVariants.{Free, Taken, Seen}
use Rattle.inspection.specs.declared.marks.Standing.{Standing}
use Rattle.inspection.specs.declared.slips.Handed.{Handed}
use Rattle.inspection.specs.declared.slips.Handed.TheVariants as handed
use Rattle.inspection.specs.declared.slips.RefusedSlip.{RefusedSlip}
use Rattle.inspection.specs.declared.slips.Slip.{Slip}
use Rattle.inspection.specs.Faults.{notice_of_taking, notice_of_return, notice_of_standing}
use Rattle.inspection.specs.Lists.{Contents}
use Rattle.inspection.specs.Marks.{mark_at, is_free, is_taken_by, standing_of}

-- with list, entry and reviewer on it
abbrev pub slip_for : Kind → ℕ → ℕ → Slip
slip_for l i q = record { list = l; entry = i; reviewer = q }

abbrev pub is_reviewer : ℕ → Bool
is_reviewer q = nat_le 1 q && nat_le q 8

abbrev pub mark_of : Handed → Mark
mark_of handed.Free = Free
mark_of handed.Seen = Seen

-- ---- at one list
module _ {E : Type 0} where
  -- the entry i has this mark
  abbrev pub marked_as : Mark → ℕ → Contents E → Contents E
  marked_as m i h = record h { marks = slice_set h.marks i m }

  abbrev pub entry_check : ℕ → Contents E → Check
  entry_check i h = check (nat_le (length h.entries) i) 22 layer.Slip i 0

  abbrev pub taking_checks : ℕ → ℕ → Contents E → List Check
  taking_checks i q h =
      check (not (is_reviewer q)) 26 layer.Slip q 0
      ∷ entry_check i h
      ∷ check (not (is_free (mark_at h.marks i))) 27 layer.Slip i 0 ∷ []

  abbrev pub return_checks : Slip → Contents E → List Check
  return_checks x h =
      entry_check x.entry h
      ∷ check (not (is_taken_by x.reviewer (mark_at h.marks x.entry))) 28 layer.Slip x.entry 0 ∷ []

  -- the entry i is to be taken for the reviewer q: r is answered, and it goes from g to h
  pub record TakesFrom
      (l : Kind) (i q : ℕ) (g : Contents E) (r : Result Slip TakingFault) (h : Contents E)
      : Type 0 where
    pub fault : fault_notice notice_of_taking r ≡ first_fit (taking_checks i q g)
    pub slip : IfOk r (λ x. x ≡ slip_for l i q)
    pub list : h ≡ (if is_ok r then marked_as (Taken q) i g else g)

  -- the slip x is handed in; where that is refused it comes back
  pub record HandsInto
      (x : Slip) (how : Handed)
      (g : Contents E) (r : Result (Unit {0}) RefusedSlip) (h : Contents E) : Type 0 where
    pub fault : fault_notice (λ e. notice_of_return e.fault) r ≡ first_fit (return_checks x g)
    pub slip : IfErr r (λ e. e.slip ≡ x)
    pub list : h ≡ (if is_ok r then marked_as (mark_of how) x.entry g else g)

  -- it is asked whether the entry i is free, taken or seen
  pub record StandingAnswer (i : ℕ) (h : Contents E) (r : Result Standing StandingFault)
      : Type 0 where
    pub fault : fault_notice notice_of_standing r ≡ first_fit (entry_check i h ∷ [])
    pub value : IfOk r (λ x. x ≡ standing_of (mark_at h.marks i))

-- ---- at both lists
abbrev pub marks_in : Kind → Lists → List Mark
marks_in Vf s = s.vf.marks
marks_in Ee s = s.ee.marks

-- at the list that is named; the other stays as it is
abbrev pub Takes : Kind → ℕ → ℕ → Lists → Result Slip TakingFault → Lists → Type 0
Takes Vf i q s r t = TakesFrom Vf i q s.vf r t.vf × (t.ee ≡ s.ee)
Takes Ee i q s r t = TakesFrom Ee i q s.ee r t.ee × (t.vf ≡ s.vf)

abbrev pub HandsInAt : Kind → Slip → Handed → Lists → Result (Unit {0}) RefusedSlip → Lists → Type 0
HandsInAt Vf x how s r t = HandsInto x how s.vf r t.vf × (t.ee ≡ s.ee)
HandsInAt Ee x how s r t = HandsInto x how s.ee r t.ee × (t.vf ≡ s.vf)

abbrev pub Stands : Kind → ℕ → Lists → Result Standing StandingFault → Type 0
Stands Vf i s r = StandingAnswer i s.vf r
Stands Ee i s r = StandingAnswer i s.ee r

abbrev pub HandsIn : Slip → Handed → Lists → Result (Unit {0}) RefusedSlip → Lists → Type 0
HandsIn x = HandsInAt x.list x

-- ---- slips that are out
abbrev pub out_after_taking : List Slip → Result Slip TakingFault → List Slip
out_after_taking out (Ok x) = out ++ (x ∷ [])
out_after_taking out (Err e) = out

-- the slip x stood between others
abbrev pub out_after_return :
    List Slip → Slip → List Slip → Result (Unit {0}) RefusedSlip → List Slip
out_after_return before x after (Ok u) = before ++ after
out_after_return before x after (Err e) = before ++ (x ∷ after)

abbrev pub same_kind : Kind → Kind → Bool
same_kind Vf Vf = true
same_kind Vf Ee = false
same_kind Ee Vf = false
same_kind Ee Ee = true

-- a slip of this list
abbrev pub is_slip_of : Kind → Slip → Bool
is_slip_of l x = same_kind x.list l

-- a slip for this entry and this reviewer
abbrev pub is_slip_for : Kind → ℕ → ℕ → Slip → Bool
is_slip_for l i q x = is_slip_of l x && x.entry == i && x.reviewer == q

-- for each entry and reviewer one slip is out where the reviewer has taken it, and else none
abbrev pub OneToOne : List Slip → Lists → Type 0
OneToOne out s =
    (l : Kind) (i q : ℕ)
    → count_by (is_slip_for l i q) out ≡ (if is_taken_by q (mark_at (marks_in l s) i) then 1 else 0)
