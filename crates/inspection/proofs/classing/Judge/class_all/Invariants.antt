use Rattle.std.proofs.Common.{◌≡◌, ◌≤◌, ◌++◌, drop}
use Rattle.arrayvec.specs.ArrayVec.{array_vec_len}
use Rattle.inspection.specs.Classes.{entries_after, tally_after}
use Rattle.inspection.specs.inner.Judges.{rules_of}
use Rattle.inspection.specs.Tallies.{no_tests, tests_counted}
use Rattle.inspection.proofs.classing.Judge.class_all.Given as goal

-- what is left decides what comes out
abbrev pub invariant-loop-e : goal.invariant-loop-e
invariant-loop-e g l =
    let j = rules_of g.F.Filter.struck g.E.TestName.naming l.self in
    record {
      listed : entries_after j (l.list.entries ++ l.new.items) (drop l.e-index l.tests) ≡ entries_after j l.list.entries l.tests;
      counts : tally_after j (l.list.entries ++ l.new.items) (drop l.e-index l.tests) l.tally ≡ tally_after j l.list.entries l.tests no_tests;
      all : tests_counted l.tally ≡ l.e-index;
      few : array_vec_len l.new ≤ l.e-index;
    }
