-- The bytes that a text is divided by.
use Rattle.std.specs.Prelude.{ℕ}

abbrev pub line_feed : ℕ
line_feed = 10

abbrev pub space : ℕ
space = 32

abbrev pub hash : ℕ
hash = 35

abbrev pub minus : ℕ
minus = 45

abbrev pub letter_f : ℕ
letter_f = 102

abbrev pub letter_v : ℕ
letter_v = 118
