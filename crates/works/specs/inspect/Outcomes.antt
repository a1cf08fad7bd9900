-- What a run over a host comes to, whatever bytes the files have beyond those that came.
use Rattle.std.specs.Prelude.{◌≡◌, ◌↔◌, ℕ, List, ◌++◌, None, Result}
use Rattle.hosts.specs.Events.{Event, Call, Reading, printed, stored, files_read, bytes_came, unread}
use Rattle.hosts.specs.Works.{Worked, IsFront}
use Rattle.plan.specs.PairBytes.{offerings_in}
use Rattle.plan.specs.Plans.{Plan, same_plan_file, ReadsPlan, fault, sheet, draft}
use Rattle.works.specs.inspect.Plans.{printout, all_needed, ClaimOfPlan}
use Rattle.works.specs.inspect.Settled.{SettlesPlan}
use Rattle.works.specs.inspect.Walks.{just_opened, walked, refusal_lines}
use Rattle.motion.specs.Rows.{delivered}
use Rattle.plan.specs.declared.endings.Ending.{Ending}
use Rattle.plan.specs.declared.endings.Ending.TheVariants.{Complete}
use Rattle.plan.specs.declared.plan_files.PlanFile.{PlanFile}
use Rattle.plan.specs.declared.plan_files.PlanFile.TheVariants.{Pairs}

-- ---- a run to its end, and a run that a call stops
module _ (p : Plan) where
  pub record EndsWith (es : List (Event PlanFile)) (end : Ending) : Type 0 where
    -- what is printed and stored settles all pairs but the refused ones
    pub settles : end ≡ Complete → SettlesPlan p (printed es) (stored es)
    pub text : printed es ≡ (printout p).text
    pub stored : stored es ≡ (printout p).stored
    pub ending : end ≡ (printout p).ending
    -- it is complete just where sheet and step have no fault
    pub complete : (end ≡ Complete) ↔ (fault p ≡ None)
    -- the files that are needed are read, in their order, and no others; the pairs in so many pieces
    pub pieces : ℕ
    pub files : files_read es ≡ all_needed p pieces
    pub claim : ClaimOfPlan p

  pub record StopsWith (es : List (Event PlanFile)) (call : Call PlanFile) : Type 0 where
    pub text : IsFront (printed es) (printout p).text
    pub stored : IsFront (stored es) (printout p).stored
    pub pieces : ℕ
    pub files : IsFront (files_read es ++ unread call) (all_needed p pieces)
    -- where a file could not be read, all is told of the pairs that came before
    pub told : (f : PlanFile) → call ≡ Reading f
        → printed es ≡ refusal_lines (walked delivered (sheet p) (just_opened (draft p)) (offerings_in (bytes_came (same_plan_file Pairs) es)))

-- ---- all that a run can come to
unfoldable pub Inspects : {S E : Type 0} → (S → Event PlanFile → S → Type 0)
    → (S → Call PlanFile → E → S → Type 0) → S → Result Ending E → S → Type 0
Inspects does fails s r t =
    Worked does fails (λ es ending. (p : Plan) → ReadsPlan p es → EndsWith p es ending)
    (λ es call. (p : Plan) → ReadsPlan p es → StopsWith p es call) s r t
