-- The front of a text that is too long decides as the whole does.
use Rattle.std.proofs.Common.{◌≡◌, ℕ, ◌+◌, ◌<◌, ltb, List, length, take, Some, None, sym, ap, ◌∙◌, inl, inr, arith}
use Rattle.std.proofs.lemmas.List.{take_all, length-take-le}
use Rattle.std.proofs.lemmas.Bool.{cases_lt, cond-true, lt-ltb, ltb-false}
use Rattle.sheet.specs.Checks.{first_fit, check, notice}
use Rattle.sheet.specs.Lines.{numbered_lines}
use Rattle.sheet.specs.Sheet.{text_limit, no_rows, lines_checks, room_in, sheet_checks}
use Rattle.sheet.specs.declared.notices.Layer.TheVariants.{Sheet}
use Rattle.sheet.proofs.FirstFit.{no_fit}

too_long : (text : List ℕ) (p f : ℕ) → text_limit < length text → first_fit (sheet_checks text p f) ≡ Some (notice 6 Sheet 0 0)
too_long text p f h = cond-true _ _ _ (lt-ltb text_limit (length text) h)

pub front_decides : (text : List ℕ) (p f : ℕ) → first_fit (sheet_checks (take (text_limit + 1) text) p f) ≡ first_fit (sheet_checks text p f)
front_decides text p f =
    elim (cases_lt text_limit (length text)) [
      | inl h ↦ let l : length (take (text_limit + 1) text) ≡ text_limit + 1 = length-take-le (text_limit + 1) text (omega arith) in too_long (take (text_limit + 1) text) p f (omega arith) ∙ sym (too_long text p f h)
      | inr h ↦ ap (λ t. first_fit (sheet_checks t p f)) (take_all (text_limit + 1) text (omega arith))
    ]

pub front_is_whole : (text : List ℕ) (p f : ℕ) → first_fit (sheet_checks text p f) ≡ None → take (text_limit + 1) text ≡ text
front_is_whole text p f h =
    let long = check (ltb text_limit (length text)) 6 Sheet 0 0 in
    let short = no_fit long (lines_checks (room_in p f) no_rows (numbered_lines text)) h in
    take_all (text_limit + 1) text (omega (arith, ltb-false text_limit (length text) short.0))
