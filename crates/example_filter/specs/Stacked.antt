-- The rule of the example's filter:
-- each point of the first feature is lower than each of the second, at start and at end.
use Rattle.std.specs.Prelude.{Bool, ◌&&◌, pos, int_lt}
use Rattle.motion.specs.declared.shapes.V3.{V3}
use Rattle.motion.specs.declared.shapes.Moving.{Moving}
use Rattle.motion.specs.declared.shapes.Shape.{Shape}
use Rattle.motion.specs.Vectors.{◌-ᵛ◌}
use Rattle.motion.specs.Slab.{pairs}

-- a way down
abbrev pub down : V3 → Bool
down v = int_lt v.z (pos 0)

abbrev pub lower : Moving → Moving → Bool
lower m n = down (m.start -ᵛ n.start) && down (m.end -ᵛ n.end)

abbrev pub stacked_set : Shape → Bool
stacked_set t = pairs down t
