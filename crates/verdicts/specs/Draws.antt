-- The pseudo-random numbers, and the checksum.
use Rattle.std.specs.Prelude.{ℕ, ◌+◌, ◌*◌, ◌/◌, ◌%◌, ◌^◌, Bool, if◌then◌else◌, ℤ, pos, ◌+ℤ◌, ◌-ℤ◌, neg_ℤ, ◌==◌}
use Rattle.std.specs.Int.Bits.{bit_xor}

-- the state after a draw, and the number that it gives
abbrev pub next_state : ℕ → ℕ
next_state s = ((s * 6364136223846793005) % 2 ^ 64 + 1442695040888963407) % 2 ^ 64

abbrev pub draw_of : ℕ → ℕ
draw_of s = s / 2 ^ 33

-- from −half to half
abbrev pub drawn_around : ℕ → ℕ → ℤ
drawn_around half n = pos (n % (2 * half + 1)) -ℤ pos half

-- right of zero for a point of the first feature, else not
abbrev pub drawn_beside : Bool → ℕ → ℤ
drawn_beside first n = if first then pos (n % 4096) +ℤ pos 1 else neg_ℤ (pos (n % 4097))

-- far out, on the one side or the other
abbrev pub side : ℕ → ℕ → ℤ
side far n = if n % 2 == 1 then pos far else neg_ℤ (pos far)

-- a checksum, with one more number taken in
abbrev pub sum_with : ℕ → ℕ → ℕ
sum_with sum n = (bit_xor sum n * 1099511628211) % 2 ^ 64
