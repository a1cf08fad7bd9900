-- A whole run over a folder.
use Rattle.std.specs.Prelude.{ℕ, Ok, Err, Result}
use Rattle.system.specs.Deeds.{Deed, Task}
use Rattle.system.specs.OnDisk.{DoesOnDisk, FailsOnDisk, Runs}
use Rattle.system.specs.declared.on_disk.OnDisk.{OnDisk}
use Rattle.plan.specs.declared.plan_files.PlanFile.{PlanFile}
use Rattle.plan.specs.declared.endings.Ending.{Ending}
use Rattle.plan.specs.declared.endings.Ending.TheVariants.{Complete, Faulty}
use Rattle.works.specs.inspect.Outcomes.{Inspects}
use Rattle.plans.specs.declared.paths.Paths.{Paths}
use Rattle.plans.specs.PlanPaths.{plan_path, refused_path, plan_lasts}

abbrev pub InspectsFolder : {D E : Type 0} → (D → Deed PlanFile → D → Type 0)
    → (D → Task PlanFile → E → D → Type 0) → OnDisk D Paths → Result Ending E → OnDisk D Paths → Type 0
InspectsFolder does fails s r t =
    Runs does fails plan_lasts
    (Inspects (DoesOnDisk plan_path refused_path does) (FailsOnDisk plan_path refused_path fails)) s r t

-- the exit status: zero where all was inspected
abbrev pub plan_status : {E : Type 0} → Result Ending E → ℕ
plan_status (Ok Complete) = 0
plan_status (Ok (Faulty n)) = 1
plan_status (Err e) = 1
