-- A filter's set that has no test, and keeps both laws.
use Rattle.std.specs.Prelude.{Bool, false}
use Rattle.std.proofs.lemmas.Bool.{false≢true}
use Rattle.motion.specs.declared.shapes.Shape.{Shape}
use Rattle.motion.specs.Laws.{Lawful}

abbrev pub no_test : Shape → Bool
no_test t = false

pub nothing_lawful : Lawful no_test
nothing_lawful =
    record {
      apart = λ t v e. absurd (false≢true e);
      halves = λ t v k e. absurd (false≢true e);
    }
