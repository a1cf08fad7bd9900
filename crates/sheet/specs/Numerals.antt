-- A field as a number: an optional minus and one to five digits.
use Rattle.std.specs.Prelude.{ℕ, ◌+◌, ◌-◌, ◌*◌, Bool, false, if◌then◌else◌, ◌&&◌, List, [], ◌∷◌, length, fold, ℤ, pos, neg_ℤ, ◌==◌, nat_le}
use Rattle.std.specs.Char.{is_ascii_digit}
use Rattle.std.specs.List.{list_all}
use Rattle.sheet.specs.Bytes.{minus}

-- the number that digits write after those of n; 48 is the digit 0
abbrev pub digits_after : ℕ → List ℕ → ℕ
digits_after n ds = fold (λ m d. m * 10 + (d - 48)) n ds

abbrev pub one_to_five : List ℕ → Bool
one_to_five ds = nat_le 1 (length ds) && nat_le (length ds) 5

abbrev pub is_magnitude : List ℕ → Bool
is_magnitude ds = one_to_five ds && list_all is_ascii_digit ds

abbrev pub is_negative : List ℕ → Bool
is_negative [] = false
is_negative (b ∷ bs) = b == minus

-- the digits of a field: what follows the minus, or all
abbrev pub digits_of : List ℕ → List ℕ
digits_of [] = []
digits_of (b ∷ bs) = if b == minus then bs else b ∷ bs

abbrev pub with_sign : Bool → ℕ → ℤ
with_sign negative n = if negative then neg_ℤ (pos n) else pos n

-- the number of a field that is a numeral
abbrev pub value_of : List ℕ → ℤ
value_of field = with_sign (is_negative field) (digits_after 0 (digits_of field))
