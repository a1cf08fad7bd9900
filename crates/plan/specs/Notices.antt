-- The line of a fault, with its line feed.
use Rattle.std.specs.Prelude.{ℕ, List, ◌++◌, codes}
use Rattle.sheet.specs.Notices.{fault_line}
use Rattle.sheet.specs.declared.notices.Notice.{Notice}

abbrev pub notice_line : Notice → List ℕ
notice_line n = fault_line n ++ codes "\n"
