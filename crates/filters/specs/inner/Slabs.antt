-- The directions of Slab that are no axis.
use Rattle.std.specs.Prelude.{List, drop}
use Rattle.motion.specs.declared.shapes.V3.{V3}
use Rattle.motion.specs.Slab.{directions}

abbrev pub diagonals : List V3
diagonals = drop 3 directions
