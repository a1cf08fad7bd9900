-- Where a plan's files lie.
use Rattle.std.specs.Prelude.{◌≡◌, ℕ, List, [], ◌∷◌, Option, codes, string_bytes}
use Rattle.std.specs.Option.{option_map, option_to_list}
use Rattle.std.specs.Path.{path_join, path_buf_bytes}
use Rattle.system.specs.Deeds.{Deed, Flushed, Kept}
use Rattle.plan.specs.declared.endings.Ending.{Ending}
use Rattle.plan.specs.declared.endings.Ending.TheVariants.{Complete, Faulty}
use Rattle.plan.specs.declared.plan_files.PlanFile.{PlanFile}
use Rattle.plan.specs.declared.plan_files.PlanFile.TheVariants.{Sheet, Step, Pairs}
use Rattle.plans.specs.declared.paths.Paths.{Paths}

abbrev pub file_name : PlanFile → List ℕ
file_name Sheet = codes "sheet.obj"
file_name Step = codes "step.bin"
file_name Pairs = codes "pairs.bin"

abbrev pub plan_path : Paths → PlanFile → List ℕ
plan_path p Sheet = path_buf_bytes p.sheet
plan_path p Step = path_buf_bytes p.step
plan_path p Pairs = path_buf_bytes p.pairs

-- where refused pairs are stored, if they are
abbrev pub refused_path : Paths → Option (List ℕ)
refused_path p = option_map string_bytes p.refused

-- the paths are those in this folder
abbrev pub AreIn : List ℕ → Paths → Type 0
AreIn folder p = (f : PlanFile) → plan_path p f ≡ path_join folder (file_name f)

-- all that is printed goes out, and then, where all was inspected, what was stored is kept
abbrev pub plan_lasts : Paths → Ending → List (Deed PlanFile)
plan_lasts p Complete = Flushed ∷ option_to_list (option_map Kept (refused_path p))
plan_lasts p (Faulty n) = Flushed ∷ []
