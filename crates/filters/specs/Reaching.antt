-- How far control values reach from zero.
use Rattle.std.specs.Prelude.{◌*◌, ◌^◌, ◌≤◌, unsigned_abs}
use Rattle.motion.specs.declared.shapes.Controls.{Controls}

-- no control value exceeds 18·2^57 in size
pub record Small (g : Controls) : Type 0 where
  pub g0 : unsigned_abs g.g0 ≤ 18 * 2 ^ 57
  pub g1 : unsigned_abs g.g1 ≤ 18 * 2 ^ 57
  pub g2 : unsigned_abs g.g2 ≤ 18 * 2 ^ 57
  pub g3 : unsigned_abs g.g3 ≤ 18 * 2 ^ 57
