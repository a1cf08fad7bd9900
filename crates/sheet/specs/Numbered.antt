-- The lines that are left of a text, each with its number.
use Rattle.std.specs.Prelude.{ℕ, List}
use Rattle.std.specs.List.{enumerate_from}
use Rattle.sheet.specs.Lines.{lines_of}
use Rattle.sheet.specs.declared.splitting.Line.{Line}
use Rattle.sheet.specs.declared.splitting.Lines.{Lines}

abbrev pub line_read : Line → ℕ × List ℕ
line_read l = (l.number, l.bytes.now)

abbrev pub lines_left : Lines → List (ℕ × List ℕ)
lines_left s = enumerate_from s.number (lines_of s.rest.now)
