-- What a reviewer can tell of the marks, and that no verdict, window or count reads one.
use Rattle.std.specs.Prelude.{◌≡◌, ◌+◌, ◌==◌, ℕ, Bool, if◌then◌else◌, List, count_by, map, Result}
use Rattle.sheet.specs.declared.rows.Point.{Point}
use Rattle.sheet.specs.declared.rows.Face.{Face}
use Rattle.motion.specs.declared.shapes.Shape.{Shape}
use Rattle.motion.specs.declared.shapes.Kind.{Kind}
use Rattle.inspection.specs.declared.faults.StandingFault.{StandingFault}
use Rattle.inspection.specs.declared.faults.TakingFault.{TakingFault}
use Rattle.inspection.specs.declared.lists.Lists.{Lists}
use Rattle.inspection.specs.declared.marks.Mark.{Mark}
use Rattle.inspection.specs.declared.marks.Mark.TheVariants.{Free, Taken, Seen}
use Rattle.inspection.specs.declared.marks.Standing.{Standing}
use Rattle.inspection.specs.declared.requests.Request.{Request}
use Rattle.inspection.specs.declared.requests.Answer.{Answer}
use Rattle.inspection.specs.declared.slips.Handed.{Handed}
use Rattle.inspection.specs.declared.slips.RefusedSlip.{RefusedSlip}
use Rattle.inspection.specs.declared.slips.Slip.{Slip}
use Rattle.inspection.specs.Lists.{Contents}
use Rattle.inspection.specs.Marks.{new_entry, is_taken}
use Rattle.inspection.specs.Requests.{RequestCall}
use Rattle.inspection.specs.Slips.{Takes, HandsIn, Stands}
use Rattle.inspection.specs.States.{State}

-- ---- with marks erased: those of the entries as e has it, those behind them altogether
module _ (e : Mark → Mark) where
  abbrev pub erased : {E : Type 0} → Contents E → Contents E
  erased h = record h { marks = map e h.marks; rest = map (λ p. new_entry p.name) h.rest }

  abbrev pub lists_erased : Lists → Lists
  lists_erased s = record { vf = erased s.vf; ee = erased s.ee }

  abbrev pub state_erased : State → State
  state_erased s = record { core = s.core; lists = lists_erased s.lists }

-- as the reviewer q sees a mark: who else has taken an entry is not seen
abbrev pub seen_by : ℕ → Mark → Mark
seen_by q Free = Free
seen_by q (Taken r) = Taken (if r == q then q else q + 1)
seen_by q Seen = Seen

-- two states of the lists that differ only in which others than q have taken entries
abbrev pub OthersDiffer : ℕ → Lists → Lists → Type 0
OthersDiffer q s t = lists_erased (seen_by q) s ≡ lists_erased (seen_by q) t

-- ---- what q is told in two such states is the same, and the states after it still differ only so
pub record Blind (q : ℕ) : Type 0 where
  -- whoever the entry is to be taken for
  pub taking : (l : Kind) (i n : ℕ) (s s' t t' : Lists) (r r' : Result Slip TakingFault)
      → OthersDiffer q s s' → Takes l i n s r t → Takes l i n s' r' t'
      → (r ≡ r') × OthersDiffer q t t'
  -- of a slip of its own
  pub returning : (x : Slip) (how : Handed) (s s' t t' : Lists)
      (r r' : Result (Unit {0}) RefusedSlip)
      → x.reviewer ≡ q → OthersDiffer q s s' → HandsIn x how s r t → HandsIn x how s' r' t'
      → (r ≡ r') × OthersDiffer q t t'
  pub standing : (l : Kind) (i : ℕ) (s s' : Lists) (r r' : Result Standing StandingFault)
      → OthersDiffer q s s' → Stands l i s r → Stands l i s' r' → r ≡ r'
  -- how many entries are taken
  pub out : (s s' : Lists) → OthersDiffer q s s'
      → (count_by is_taken s.vf.marks ≡ count_by is_taken s'.vf.marks)
      × (count_by is_taken s.ee.marks ≡ count_by is_taken s'.ee.marks)

-- ---- no verdict, window or count reads a mark: whatever is erased of them, from two states that
-- ---- are then the same a request is answered the same, and leaves two that are then the same
abbrev pub MarksUnread : (Shape → Bool) → Type 0
MarksUnread set =
    (e : Mark → Mark) → e Free ≡ Free
    → (ps : List Point) (fs : List Face) (q : Request) (a a' : Answer) (s s' t t' : State)
    → state_erased e s ≡ state_erased e s'
    → RequestCall set ps fs q a s t → RequestCall set ps fs q a' s' t'
    → (a ≡ a') × (state_erased e t ≡ state_erased e t')
