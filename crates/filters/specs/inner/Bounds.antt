-- How far numbers and vectors reach from zero.
use Rattle.std.specs.Prelude.{ℕ, ◌≤◌, ℤ, unsigned_abs}
use Rattle.motion.specs.declared.shapes.V3.{V3}

-- a record, so that a proof need not repeat z and B
pub record Bounded (B : ℕ) (z : ℤ) : Type 0 where
  pub size : unsigned_abs z ≤ B

pub record Reach (B : ℕ) (v : V3) : Type 0 where
  pub x : Bounded B v.x
  pub y : Bounded B v.y
  pub z : Bounded B v.z
