-- What a point sweeps over, and a face if its corners are points of the sheet.
use Rattle.std.specs.Prelude.{[], ◌∷◌, if◌then◌else◌, Some, None, Option}
use Rattle.sheet.specs.declared.rows.Face.{Face}
use Rattle.motion.specs.declared.shapes.Moving.{Moving}
use Rattle.inspection.specs.Sheets.{Sheet}
use Rattle.inspection.specs.Tests.{corners_inside}
use Rattle.near_faces.specs.declared.boxes.SweptBox.{SweptBox}
use Rattle.near_faces.specs.Boxes.{box_around, swept_box}

abbrev pub swept_by : Moving → SweptBox
swept_by m = box_around (m ∷ [])

-- where its corners are points of the sheet
abbrev pub swept_if_inside : Sheet → Face → Option SweptBox
swept_if_inside s f = if corners_inside s f then Some (swept_box s f) else None
