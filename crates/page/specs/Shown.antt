-- The rows of a sheet with its step, as a page shows them.
use Rattle.std.specs.Prelude.{◌≡◌, ℕ, List, [], length, take, Some, None, Option}
use Rattle.sheet.specs.declared.notices.Notice.{Notice}
use Rattle.sheet.specs.declared.rows.Point.{Point}
use Rattle.sheet.specs.declared.rows.Face.{Face}
use Rattle.plan.specs.Plans.{Plan, fault, moving_points, faces}
use Rattle.page.specs.declared.rows.RowCounts.{RowCounts}

-- none, and the code 1, where the sheet or its step has a fault
pub record Shown : Type 0 where
  pub code : ℕ
  pub points : List Point
  pub faces : List Face

abbrev pub shown_by : Plan → Option Notice → Shown
shown_by p (Some n) = record { code = 1; points = []; faces = [] }
shown_by p None = record { code = 0; points = moving_points p; faces = faces p }

unfoldable pub shown : Plan → Shown
shown p = shown_by p (fault p)
