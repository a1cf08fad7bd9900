-- What comes of tables that a step is laid onto.
use Rattle.std.specs.Prelude.{List}
use Rattle.hosts.specs.Writing.{Outcome, or_tells}
use Rattle.sheet.specs.Checks.{first_fit}
use Rattle.sheet.specs.declared.drafts.Draft.{Draft}
use Rattle.sheet.specs.declared.rows.Point.{Point}
use Rattle.sheet.specs.declared.rows.Face.{Face}
use Rattle.inspection.specs.Sheets.{sheet_in}
use Rattle.near_faces.specs.Near.{near_pairs}
use Rattle.near_faces.specs.Searches.{search_checks}
use Rattle.plan.specs.declared.endings.Ending.{Ending}
use Rattle.pairing.specs.Pairings.{node_room, pair_room, told_fault, paired}

-- of tables that a step is laid onto
unfoldable pub pairing_in : Draft → List Point → List Face → Outcome Ending
pairing_in d ps fs =
    or_tells (first_fit (search_checks d ps fs node_room pair_room)) told_fault
    (paired d.faces (near_pairs (sheet_in d ps fs)))
