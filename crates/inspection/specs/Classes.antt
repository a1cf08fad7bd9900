-- The class of each test of an offer, and what is listed and counted by it.
use Rattle.std.specs.Prelude.{ℕ, Bool, if◌then◌else◌, List, [], ◌∷◌, ◌++◌, fold}
use Rattle.motion.specs.declared.shapes.Shape.{Shape}
use Rattle.motion.specs.Depths.{struck_at}
use Rattle.inspection.specs.declared.classes.Class.{Class}
use Rattle.inspection.specs.declared.classes.Class.TheVariants.{Kept, Struck, Shared, Repeated}
use Rattle.inspection.specs.declared.classes.Tally.{Tally}
use Rattle.inspection.specs.Tallies.{with_one_more}
use Rattle.inspection.specs.Sheets.{Sheet}
use Rattle.inspection.specs.Tests.{Naming}
use Rattle.inspection.specs.Lists.{has}

-- by what the tests of one kind are judged: which are shared, which are struck, which are the same
pub record Rules (E : Type 0) : Type 0 where
  pub shared : E → Bool
  pub struck : E → Bool
  pub same : E → E → Bool

-- over a sheet, by a filter's set at depth k
abbrev pub rules_at : {E : Type 0} → Naming E → (Shape → Bool) → ℕ → Sheet → Rules E
rules_at n set k sheet =
    record {
      shared = n.shared sheet;
      struck = λ e. struck_at set k (n.shape sheet e);
      same = n.same;
    }

-- the entries with a test of this class: a kept one is added at the end
abbrev pub entries_after_one : {E : Type 0} → Class → List E → E → List E
entries_after_one Kept es e = es ++ (e ∷ [])
entries_after_one Struck es e = es
entries_after_one Shared es e = es
entries_after_one Repeated es e = es

module _ {E : Type 0} (r : Rules E) where
  -- the first rule that fits: shared; struck; repeated, if it is listed; else kept
  abbrev pub class_of : List E → E → Class
  class_of es e =
      if r.shared e then Shared
      else if r.struck e then Struck
      else if has r.same e es then Repeated
      else Kept

  -- the entries after tests, each in its turn
  abbrev pub entries_after : List E → List E → List E
  entries_after es tests = fold (λ old e. entries_after_one (class_of old e) old e) es tests

  -- the tally after them
  abbrev pub tally_after : List E → List E → Tally → Tally
  tally_after es [] t = t
  tally_after es (e ∷ rest) t =
      let k = class_of es e in tally_after (entries_after_one k es e) rest (with_one_more k t)
