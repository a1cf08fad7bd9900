-- What the tests of one kind of an offer come to.
use Rattle.std.specs.Prelude.{◌≡◌, ℕ, Bool, List, ◌++◌, length}
use Rattle.motion.specs.declared.shapes.Shape.{Shape}
use Rattle.inspection.specs.declared.classes.Tally.{Tally}
use Rattle.inspection.specs.Offerings.{Offering}
use Rattle.inspection.specs.Offers.{entries_by, tally_by}
use Rattle.inspection.specs.Sheets.{Sheet}
use Rattle.inspection.specs.Tallies.{tests_counted}
use Rattle.inspection.specs.Tests.{Naming}

-- behind these entries go the new ones, and t is the tally of all
pub record KindOutcome {E : Type 0}
    (n : Naming E) (set : Shape → Bool) (k : ℕ) (sheet : Sheet) (o : Offering)
    (es new : List E) (t : Tally) : Type 0 where
  pub entries : es ++ new ≡ entries_by n set k sheet o es
  pub tally : t ≡ tally_by n set k sheet o es
  pub total : tests_counted t ≡ length (n.tests sheet o)
