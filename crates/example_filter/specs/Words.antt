-- The words for what a filter answers.
use Rattle.std.specs.Prelude.{ℕ, Bool, true, false, Option, Some, None, List, codes}

abbrev pub verdict_word : Option Bool → List ℕ
verdict_word (Some true) = codes "struck"
verdict_word (Some false) = codes "passed"
verdict_word None = codes "not asked"
