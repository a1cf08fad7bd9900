-- The axes by name.
use Rattle.std.specs.Prelude.{ℤ}
use Rattle.motion.specs.declared.shapes.V3.{V3}
use Rattle.motion.specs.declared.shapes.Moving.{Moving}
use Rattle.filters.specs.declared.boxes.Axis.{Axis}
use Rattle.filters.specs.declared.boxes.Axis.TheVariants.{X, Y, Z}
use Rattle.filters.specs.declared.spans.Span.{Span}
use Rattle.filters.specs.inner.Spans.{stretch}

abbrev pub coordinate : Axis → V3 → ℤ
coordinate X v = v.x
coordinate Y v = v.y
coordinate Z v = v.z

abbrev pub swept : Axis → Moving → Span
swept i m = stretch (coordinate i m.start) (coordinate i m.end)
