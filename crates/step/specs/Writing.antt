-- Writing the record of a table: the checks of the call.
use Rattle.std.specs.Prelude.{ℕ, List, [], ◌∷◌, length, take, nat_lt}
use Rattle.sheet.specs.Checks.{Check, check}
use Rattle.sheet.specs.declared.notices.Layer.TheVariants.{Writer}
use Rattle.sheet.specs.declared.rows.Point.{Point}
use Rattle.step.specs.Record.{record_of}

-- all checks, for the first n rows of a table and an output of so many bytes
abbrev pub write_checks : ℕ → List Point → ℕ → List Check
write_checks n points room =
    check (nat_lt (length points) n) 13 Writer 0 0
    ∷ (check (nat_lt room (length (record_of (take n points)))) 14 Writer 0 0
    ∷ [])
