-- A whole run over a folder: the work, and the last that is done.
use Rattle.std.proofs.Common.{Result}
use Rattle.system.specs.Deeds.{Deed, Task}
use Rattle.system.specs.OnDisk.{DoesOnDisk, FailsOnDisk, Ends}
use Rattle.system.specs.declared.on_disk.OnDisk.{OnDisk}
use Rattle.plan.specs.declared.endings.Ending.{Ending}
use Rattle.plan.specs.declared.plan_files.PlanFile.{PlanFile}
use Rattle.pairing.specs.Works.{FindsPairs}
use Rattle.pairings.specs.declared.paths.Paths.{Paths}
use Rattle.pairings.specs.PairPaths.{pair_path, pairs_path, pair_lasts}
use Rattle.pairings.specs.Runs.{PairsFolder}

pub ended : {D E : Type 0} (does : D → Deed PlanFile → D → Type 0) (fails : D → Task PlanFile → E → D → Type 0) (s between t : OnDisk D Paths) (work r : Result Ending E)
    → FindsPairs (DoesOnDisk pair_path pairs_path does) (FailsOnDisk pair_path pairs_path fails) s work between → Ends does fails pair_lasts between work r t → PairsFolder does fails s r t
unfolding PairsFolder
ended does fails s between t work r works ends = record { between = between; work = work; works = works; ends = ends }
