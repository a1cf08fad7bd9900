-- Where a plan's files lie, and where its pairs are stored: at the path of its file of pairs.
use Rattle.std.specs.Prelude.{ℕ, List, [], ◌∷◌, Some, Option}
use Rattle.system.specs.Deeds.{Deed, Flushed, Kept}
use Rattle.plan.specs.declared.endings.Ending.{Ending}
use Rattle.plan.specs.declared.endings.Ending.TheVariants.{Complete, Faulty}
use Rattle.plan.specs.declared.plan_files.PlanFile.{PlanFile}
use Rattle.plan.specs.declared.plan_files.PlanFile.TheVariants.{Pairs}
use Rattle.plans.specs.PlanPaths as plan
use Rattle.pairings.specs.declared.paths.Paths.{Paths}

abbrev pub pair_path : Paths → PlanFile → List ℕ
pair_path p f = plan.plan_path p.plan f

abbrev pub pairs_path : Paths → Option (List ℕ)
pairs_path p = Some (pair_path p Pairs)

-- where pairs were stored, they are kept, and only then their line goes out
abbrev pub pair_lasts : Paths → Ending → List (Deed PlanFile)
pair_lasts p Complete = Kept (pair_path p Pairs) ∷ Flushed ∷ []
pair_lasts p (Faulty n) = Flushed ∷ []
