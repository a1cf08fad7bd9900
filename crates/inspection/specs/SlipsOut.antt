-- What every run says of the slips that are out.
use Rattle.std.specs.Prelude.{◌≡◌, Bool, List, Contains, count_by, Result, IsOk}
use Rattle.sheet.specs.declared.drafts.Draft.{Draft}
use Rattle.motion.specs.declared.shapes.Kind.{Kind}
use Rattle.motion.specs.declared.shapes.Shape.{Shape}
use Rattle.inspection.specs.declared.lists.Lists.{Lists}
use Rattle.inspection.specs.declared.slips.Handed.{Handed}
use Rattle.inspection.specs.declared.slips.RefusedSlip.{RefusedSlip}
use Rattle.inspection.specs.declared.slips.Slip.{Slip}
use Rattle.inspection.specs.Marks.{is_taken}
use Rattle.inspection.specs.Sheets.{Sheet}
use Rattle.inspection.specs.Slips.{HandsIn, OneToOne, is_slip_of, marks_in}
use Rattle.inspection.specs.States.{State}
use Rattle.inspection.specs.Runs.{Accepted, Run}

-- with these slips out: they and the entries taken agree one to one, and in number
-- and whichever of them is handed in now, it is accepted
pub record SlipsAgree (out : List Slip) (s : Lists) : Type 0 where
  pub one_to_one : OneToOne out s
  pub number : (l : Kind) → count_by (is_slip_of l) out ≡ count_by is_taken (marks_in l s)
  pub accepted : (x : Slip) → Contains out x
      → (how : Handed) (r : Result (Unit {0}) RefusedSlip) (t : Lists) → HandsIn x how s r t → IsOk r

-- whatever run ends with these lists, by whatever set
abbrev pub NoneLost : Lists → Type 0
NoneLost s =
    (set : Shape → Bool) (d : Draft) (sheet : Sheet) (history : List Accepted) (out : List Slip)
    (t : State) → Run set d sheet history out t → t.lists ≡ s → SlipsAgree out s
