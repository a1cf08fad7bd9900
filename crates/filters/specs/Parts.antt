-- Powers of two.
use Rattle.std.specs.Prelude.{ℕ, ◌^◌, List, map}
use Rattle.std.specs.List.{range_with_len}

-- the first n, from 2^0 on
abbrev pub powers_of_two : ℕ → List ℕ
powers_of_two n = map (λ h. 2 ^ h) (range_with_len 0 n)
