-- What a plan in memory comes to.
use Rattle.std.proofs.Common.{◌≡◌, ℕ, List, [], unwrap_or, Ok, subst}
use Rattle.hosts.specs.Memory.{Remembers}
use Rattle.hosts.specs.Outcomes.{ReadsAndWrites}
use Rattle.hosts.specs.Pages.{NeverFails}
use Rattle.hosts.specs.inner.Filling.{Filled}
use Rattle.hosts.specs.Writing.{Written, Outcome, writes_of}
use Rattle.hosts.specs.declared.memories.Memory.{Memory}
use Rattle.hosts.proofs.Outcomes as outcomes
use Rattle.hosts.proofs.Writing.{output-writes_of, store-writes_of}
use Rattle.plan.specs.Memory.{left_in}
use Rattle.plan.specs.Plans.{Plan, bytes_of, same_plan_file, needed_files}
use Rattle.plan.specs.declared.endings.Ending.{Ending}
use Rattle.plan.specs.declared.memory.PlanBytes.{PlanBytes}
use Rattle.plan.specs.declared.plan_files.PlanFile.{PlanFile}
use Rattle.pairing.specs.Pairings.{pairing}
use Rattle.pairing.specs.Works.{EndsPairing, FindsPairs}

abbrev bytes_left : PlanBytes → PlanFile → List ℕ
bytes_left b = bytes_of (left_in b)

abbrev pairing_of : PlanBytes → Outcome Ending
pairing_of b = pairing b.sheet.now b.step.now

abbrev all_of : Plan → List Written
all_of p = writes_of (pairing p.sheet p.step)

module _ (m n : Memory PlanBytes) (end : Ending) (run : FindsPairs (Remembers same_plan_file bytes_left) NeverFails m (Ok end) n) where
  went : ReadsAndWrites same_plan_file bytes_of needed_files (Remembers same_plan_file bytes_left) NeverFails all_of EndsPairing m (Ok end) n
  unfolding FindsPairs
  went = run

  pub ended : end ≡ (pairing_of m.files).answer
  ended = (outcomes.answered same_plan_file bytes_of needed_files left_in all_of EndsPairing m n end went).ending

  pub line_shown : Filled m.printed.now n.printed.now (pairing_of m.files).line
  line_shown = subst (Filled m.printed.now n.printed.now) (output-writes_of (pairing_of m.files)) (outcomes.output_shown same_plan_file bytes_of needed_files left_in all_of EndsPairing m n end went)

  pub pairs_shown : Filled m.stored.now n.stored.now (unwrap_or (pairing_of m.files).stored [])
  pairs_shown = subst (Filled m.stored.now n.stored.now) (store-writes_of (pairing_of m.files)) (outcomes.store_shown same_plan_file bytes_of needed_files left_in all_of EndsPairing m n end went)

  pub same_line : n.printed.ghost_name ≡ m.printed.ghost_name
  same_line = outcomes.same_output same_plan_file bytes_of needed_files left_in all_of EndsPairing m n end went

  pub same_kept : n.stored.ghost_name ≡ m.stored.ghost_name
  same_kept = outcomes.same_store same_plan_file bytes_of needed_files left_in all_of EndsPairing m n end went
