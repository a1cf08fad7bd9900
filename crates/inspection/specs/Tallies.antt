-- Tallies: how many tests of one kind there were of each class.
use Rattle.std.specs.Prelude.{ℕ, ◌+◌, List, slice_index_or}
use Rattle.inspection.specs.declared.classes.Class.{Class}
use Rattle.inspection.specs.declared.classes.Class.TheVariants.{Kept, Struck, Shared, Repeated}
use Rattle.inspection.specs.declared.classes.Tally.{Tally}
use Rattle.motion.specs.declared.shapes.Kind.{Kind}
use Rattle.motion.specs.declared.shapes.Kind.TheVariants.{Vf, Ee}

abbrev pub no_tests : Tally
no_tests = record { kept = 0; struck = 0; shared = 0; repeated = 0 }

abbrev pub tests_counted : Tally → ℕ
tests_counted t = t.kept + t.struck + t.shared + t.repeated

-- one more of a class
abbrev pub with_one_more : Class → Tally → Tally
with_one_more Kept t = record t { kept = t.kept + 1 }
with_one_more Struck t = record t { struck = t.struck + 1 }
with_one_more Shared t = record t { shared = t.shared + 1 }
with_one_more Repeated t = record t { repeated = t.repeated + 1 }

-- of each class as many as both have
abbrev pub sum_of : Tally → Tally → Tally
sum_of s t =
    record {
      kept = s.kept + t.kept;
      struck = s.struck + t.struck;
      shared = s.shared + t.shared;
      repeated = s.repeated + t.repeated;
    }

-- of the two tallies of an inspection, that of this kind
abbrev pub tally_in : Kind → List Tally → Tally
tally_in Vf ts = slice_index_or ts 0 no_tests
tally_in Ee ts = slice_index_or ts 1 no_tests
