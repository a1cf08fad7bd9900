-- The rules by which the code's judge judges.
use Rattle.std.specs.Prelude.{Bool}
use Rattle.motion.specs.declared.shapes.Shape.{Shape}
use Rattle.inspection.specs.declared.classing.Judge.{Judge}
use Rattle.inspection.specs.Sheets.{sheet_of_rows}
use Rattle.inspection.specs.Tests.{Naming}
use Rattle.inspection.specs.Classes.{Rules, rules_at}

abbrev pub rules_of : {F E : Type 0} → (F → Shape → Bool) → Naming E → Judge F → Rules E
rules_of struck n j = rules_at n (struck j.filter.now) j.depth (sheet_of_rows j.rows)
