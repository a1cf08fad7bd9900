-- What is told of rows in hand.
use Rattle.std.specs.Prelude.{◌≡◌, ℕ, List, [], length, take, Some, None, Option}
use Rattle.sheet.specs.declared.notices.Notice.{Notice}
use Rattle.sheet.specs.declared.rows.Point.{Point}
use Rattle.sheet.specs.declared.rows.Face.{Face}
use Rattle.plan.specs.Plans.{Plan, fault, moving_points, faces}
use Rattle.page.specs.declared.rows.RowCounts.{RowCounts}
use Rattle.page.specs.Shown.{Shown}

-- the answer tells of these rows, with which the tables begin
pub record TellsRows (s : Shown) (ps : List Point) (fs : List Face) (r : RowCounts) : Type 0 where
  pub code : r.code ≡ s.code
  pub points : take r.points ps ≡ s.points
  pub faces : take r.faces fs ≡ s.faces
  pub point_count : r.points ≡ length s.points
  pub face_count : r.faces ≡ length s.faces
