-- What counts is within reach.
use Rattle.std.proofs.Common.{◌≡◌, ℕ, ◌≤◌, ℤ, nat_abs, List, get_or, sym, subst, arith}
use Rattle.std.proofs.Math.ListN.{get_or-map}
use borrow.Author.Differences.{ints}
use Rattle.sheet.specs.Counted.{coordinate_of}
use Rattle.sheet.specs.declared.rows.Coords.{Coords}
use Rattle.sheet.specs.declared.rows.Point.{Point}
use Rattle.sheet.specs.declared.rows.Face.{Face}
use Rattle.motion.specs.declared.shapes.Moving.{Moving}
use Rattle.motion.specs.Laws.{Within, InReach}
use Rattle.inspection.specs.Sheets.{position_of, moving_of, nowhere, point_at, sheet_of}

pub coordinate_near : (z : ℤ) → nat_abs (coordinate_of z) ≤ 4096
coordinate_near z = grind (arith, ints)

position_near : (c : Coords) → Within 4096 (position_of c)
position_near c = (coordinate_near c.x, coordinate_near c.y, coordinate_near c.z)

in_reach : (p : Point) (m : Moving) → m ≡ moving_of p → InReach 0 m
in_reach p m e = subst (InReach 0) (sym e) (position_near p.start, position_near p.end)

-- the points of a sheet
pub points_near : (ps : List Point) (fs : List Face) (k : ℕ) → InReach 0 (point_at (sheet_of ps fs) k)
points_near ps fs k = in_reach (get_or ps k nowhere) (point_at (sheet_of ps fs) k) (get_or-map moving_of ps k nowhere)
