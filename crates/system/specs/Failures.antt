-- Where a call failed.
use Rattle.std.specs.Prelude.{ℕ, List, [], Option, codes}
use Rattle.std.specs.Option.{unwrap_or}
use Rattle.system.specs.declared.failures.Site.{Site}
use Rattle.system.specs.declared.failures.Site.TheVariants.{File, Output, Target, Memory}

-- by which name it is told
abbrev pub site_name : {P F : Type 0} → (P → F → List ℕ) → (P → Option (List ℕ)) → P → Site F → List ℕ
site_name path target p (File f) = path p f
site_name path target p Output = codes "standard output"
site_name path target p Target = unwrap_or (target p) []
site_name path target p Memory = codes "memory"
