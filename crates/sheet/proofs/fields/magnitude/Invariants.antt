use Rattle.std.proofs.Common.{◌≡◌, ◌^◌, ◌<◌, drop}
use Rattle.std.specs.Char.{is_ascii_digit}
use Rattle.std.specs.List.{list_all}
use Rattle.sheet.specs.Numerals.{digits_after}
use Rattle.sheet.proofs.fields.magnitude.Given as goal

abbrev pub invariant-loop-d : goal.invariant-loop-d
invariant-loop-d l =
    (l.n < 10 ^ l.d-index)
    × (digits_after l.n (drop l.d-index l.digits) ≡ digits_after 0 l.digits)
    × (list_all is_ascii_digit (drop l.d-index l.digits) ≡ list_all is_ascii_digit l.digits)
