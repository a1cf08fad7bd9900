-- What can be seen of an inspection and of its lists between two calls.
use Rattle.std.specs.Prelude.{ℕ, ◌+◌, List, [], ◌∷◌}
use Rattle.sheet.specs.declared.drafts.Draft.{Draft}
use Rattle.inspection.specs.declared.classes.Tally.{Tally}
use Rattle.inspection.specs.declared.inspections.Inspection.{Inspection}
use Rattle.motion.specs.declared.shapes.Kind.TheVariants.{Vf, Ee}
use Rattle.inspection.specs.declared.lists.Lists.{Lists}
use Rattle.inspection.specs.declared.names.VfName.{VfName}
use Rattle.inspection.specs.declared.names.EeName.{EeName}
use Rattle.inspection.specs.Tallies.{no_tests, sum_of, tally_in}
use Rattle.inspection.specs.Lists.{without_entries}

-- of the inspection itself, but for its filter
pub record Core : Type 0 where
  pub draft : Draft
  pub depth : ℕ
  pub tallies : List Tally
  pub accepted : ℕ

pub record State : Type 0 where
  pub core : Core
  pub lists : Lists

abbrev pub core_of : {F : Type 0} → Inspection F → Core
core_of i =
    record { draft = i.draft; depth = i.depth; tallies = i.tallies; accepted = i.accepted }

abbrev pub state_of : {F : Type 0} → Inspection F → Lists → State
state_of i lists = record { core = core_of i; lists = lists }

-- the entries of both lists, by their names
pub record Entries : Type 0 where
  pub vf : List VfName
  pub ee : List EeName

abbrev pub entries_of : Lists → Entries
entries_of lists = record { vf = lists.vf.entries; ee = lists.ee.entries }

-- just opened
abbrev pub core_at_start : Draft → ℕ → Core
core_at_start d k =
    record { draft = d; depth = k; tallies = no_tests ∷ (no_tests ∷ []); accepted = 0 }

abbrev pub emptied : Lists → Lists
emptied lists = record { vf = without_entries lists.vf; ee = without_entries lists.ee }

-- with lists that were emptied
abbrev pub state_at_start : Draft → ℕ → Lists → State
state_at_start d k lists = record { core = core_at_start d k; lists = emptied lists }

abbrev pub with_depth : ℕ → Core → Core
with_depth k c = record c { depth = k }

-- one more accepted offer, with the tallies of its tests of the two kinds
abbrev pub with_counts : Tally → Tally → Core → Core
with_counts vf ee c =
    record {
      draft = c.draft;
      depth = c.depth;
      tallies = sum_of (tally_in Vf c.tallies) vf ∷ (sum_of (tally_in Ee c.tallies) ee ∷ []);
      accepted = c.accepted + 1;
    }
