-- The last line of a run from two frames, without its line feed.
use Rattle.std.specs.Prelude.{ℕ, if◌then◌else◌, ◌==◌, List, ◌++◌, codes, decimal}

abbrev pub covered_line : List ℕ
covered_line = codes "covered all pairs"

abbrev pub refused_line : ℕ → List ℕ
refused_line n = codes "refused " ++ (decimal n ++ codes " pairs")

abbrev pub last_line : ℕ → List ℕ
last_line n = if n == 0 then covered_line else refused_line n
