-- Four vectors in lanes.
use Rattle.std.specs.Prelude.{ℕ, ◌^◌, List, map, zip, length, ◌≡◌, ℤ}
use Rattle.std.specs.Simd.Lanes.{Each1}
use Rattle.motion.specs.declared.shapes.V3.{V3}
use Rattle.motion.specs.Vectors.{vector}
use Rattle.filters.specs.inner.Bounds.{Bounded}
use Rattle.filters.specs.declared.lanes.Vectors.{Vectors}

-- the vectors that stand there
abbrev pub vectors : Vectors → List V3
vectors w = map (λ ((x, y), z). vector x y z) (zip (zip w.x w.y) w.z)

-- four numbers, none further from zero than B
pub record Lanes (B : ℕ) (xs : List ℤ) : Type 0 where
  pub four : length xs ≡ 4
  pub near : Each1 (Bounded B) xs

pub record InLanes (w : Vectors) : Type 0 where
  pub x : Lanes (2 ^ 19) w.x
  pub y : Lanes (2 ^ 19) w.y
  pub z : Lanes (2 ^ 19) w.z
