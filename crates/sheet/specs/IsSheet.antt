-- What a sheet that was read is, whatever its text.
use Rattle.std.specs.Prelude.{◌≡◌, ◌≢◌, ℕ, ◌<◌, ◌≤◌, IsTrue, List, length}
use Rattle.std.specs.List.{All}
use Rattle.sheet.specs.Counted.{within}
use Rattle.sheet.specs.Sheet.{point_limit, face_limit}
use Rattle.sheet.specs.declared.rows.Point.{Point}
use Rattle.sheet.specs.declared.rows.Face.{Face}

-- a point that rests, in the range of coordinates
pub record IsResting (p : Point) : Type 0 where
  pub in_range : IsTrue (within p.start)
  pub rests : p.end ≡ p.start

-- a face that has three different ones of so many points for its corners
pub record IsTriangle (points : ℕ) (f : Face) : Type 0 where
  pub a_exists : f.a < points
  pub b_exists : f.b < points
  pub c_exists : f.c < points
  pub a_is_not_b : f.a ≢ f.b
  pub a_is_not_c : f.a ≢ f.c
  pub b_is_not_c : f.b ≢ f.c

pub record IsSheet (points : List Point) (faces : List Face) : Type 0 where
  pub point_count : length points ≤ point_limit
  pub face_count : length faces ≤ face_limit
  pub resting : All IsResting points
  pub triangles : All (IsTriangle (length points)) faces
