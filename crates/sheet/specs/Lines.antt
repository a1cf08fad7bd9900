-- The lines of a text and the fields of a line.
use Rattle.std.specs.Prelude.{ℕ, if◌then◌else◌, List, [], ◌∷◌, ◌==◌}
use Rattle.std.specs.List.{before_first, after_first, onto_first, enumerate_from}
use Rattle.sheet.specs.Bytes.{line_feed, space, hash, letter_f, letter_v}

-- each line ends with a line feed, which the last may lack
abbrev pub lines_of : List ℕ → List (List ℕ)
lines_of [] = []
lines_of (x ∷ xs) = if x == line_feed then [] ∷ lines_of xs else onto_first x (lines_of xs)

-- the lines, each with its number, counted from 1
abbrev pub numbered_lines : List ℕ → List (ℕ × List ℕ)
numbered_lines text = enumerate_from 1 (lines_of text)

pub record Fields : Type 0 where
  pub first : List ℕ
  pub second : List ℕ
  pub third : List ℕ

-- split at the first and at the second space; a missing field is empty, and the third keeps
-- any further space
abbrev pub fields_of : List ℕ → Fields
fields_of bs =
    let is_space = λ (b : ℕ). b == space in
    let rest = after_first is_space bs in
    record {
      first = before_first is_space bs;
      second = before_first is_space rest;
      third = after_first is_space rest;
    }

-- what a line is, by its first letter and the space after it
pub data Content : Type 0 where
  skipped : Content
  point : Fields → Content
  face : Fields → Content
  no_start : Content

abbrev pub after_space : (Fields → Content) → List ℕ → Content
after_space kind [] = no_start
after_space kind (b ∷ bs) = if b == space then kind (fields_of bs) else no_start

abbrev pub content_of : List ℕ → Content
content_of [] = skipped
content_of (b ∷ bs) =
    if b == hash then skipped
    else if b == letter_v then after_space point bs
    else if b == letter_f then after_space face bs
    else no_start
