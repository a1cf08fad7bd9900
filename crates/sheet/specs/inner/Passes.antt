-- Tables in which the row of a line is written after those above the line, and what some lines
-- add to the counts.
use Rattle.std.specs.Prelude.{ℕ, List, fold, slice_set}
use Rattle.sheet.specs.Sheet.{element_of, counting}
use Rattle.sheet.specs.declared.counts.RowCounts.{RowCounts}
use Rattle.sheet.specs.declared.lines.Element.{Element}
use Rattle.sheet.specs.declared.lines.Element.TheVariants as element
use Rattle.sheet.specs.declared.rows.Point.{Point}
use Rattle.sheet.specs.declared.rows.Face.{Face}

-- the largest counts that the machine's numbers hold
abbrev pub widest : RowCounts
widest = record { points = 65535; faces = 65535 }

abbrev pub counts_after : RowCounts → List (ℕ × List ℕ) → RowCounts
counts_after above ls = fold (λ a l. counting a (element_of a.points l.1)) above ls

abbrev pub with_point : RowCounts → Element → List Point → List Point
with_point above element.Nothing ps = ps
with_point above (element.Point p) ps = slice_set ps above.points p
with_point above (element.Face f) ps = ps

abbrev pub with_face : RowCounts → Element → List Face → List Face
with_face above element.Nothing fs = fs
with_face above (element.Point p) fs = fs
with_face above (element.Face f) fs = slice_set fs above.faces f
