-- Filters of the same set answer the same requests alike.
use Rattle.std.specs.Prelude.{◌≡◌, Bool, List}
use Rattle.sheet.specs.declared.rows.Point.{Point}
use Rattle.sheet.specs.declared.rows.Face.{Face}
use Rattle.motion.specs.declared.shapes.Shape.{Shape}
use Rattle.inspection.specs.declared.requests.Request.{Request}
use Rattle.inspection.specs.declared.requests.Answer.{Answer}
use Rattle.inspection.specs.Claims.{Agree}
use Rattle.inspection.specs.States.{State}
use Rattle.inspection.specs.Requests.{Calls}

-- from the state s on over these tables, these requests were answered so, and t is left
-- whatever filter of a set that agrees answers them so too, and leaves that
abbrev pub AnswersAlike :
    (Shape → Bool) → List Point → List Face → List Request → State → List Answer → State → Type 0
AnswersAlike set ps fs qs s rs t =
    (other : Shape → Bool) → Agree set other
    → (answers : List Answer) (u : State)
    → Calls other ps fs qs answers s u → (answers ≡ rs) × (u ≡ t)
