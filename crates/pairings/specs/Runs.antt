-- A whole run over a folder.
use Rattle.std.specs.Prelude.{Result}
use Rattle.system.specs.Deeds.{Deed, Task}
use Rattle.system.specs.OnDisk.{DoesOnDisk, FailsOnDisk, Runs}
use Rattle.system.specs.declared.on_disk.OnDisk.{OnDisk}
use Rattle.plan.specs.declared.endings.Ending.{Ending}
use Rattle.plan.specs.declared.plan_files.PlanFile.{PlanFile}
use Rattle.pairing.specs.Works.{FindsPairs}
use Rattle.pairings.specs.declared.paths.Paths.{Paths}
use Rattle.pairings.specs.PairPaths.{pair_path, pairs_path, pair_lasts}

unfoldable pub PairsFolder : {D E : Type 0} → (D → Deed PlanFile → D → Type 0)
    → (D → Task PlanFile → E → D → Type 0) → OnDisk D Paths → Result Ending E → OnDisk D Paths → Type 0
PairsFolder does fails s r t =
    Runs does fails pair_lasts
    (FindsPairs (DoesOnDisk pair_path pairs_path does) (FailsOnDisk pair_path pairs_path fails)) s r t
