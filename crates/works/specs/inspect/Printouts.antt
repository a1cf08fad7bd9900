-- What a run prints, and how it ends.
use Rattle.std.specs.Prelude.{ℕ, List}
use Rattle.plan.specs.declared.endings.Ending.{Ending}

-- all bytes that are printed, all that are stored, and the ending
pub record Printout : Type 0 where
  pub text : List ℕ
  pub stored : List ℕ
  pub ending : Ending
