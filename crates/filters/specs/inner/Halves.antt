-- What the halves of a test say of the whole.
use Rattle.std.specs.Prelude.{ℕ, ◌+◌, ◌^◌}
use Rattle.std.specs.Option.{option_map}
use Rattle.filters.specs.declared.first_parts.Earliest.{Earliest}

-- that of the last half, as it counts in the whole, where all 2^d of the first are struck
unfoldable pub behind_first_half : ℕ → Earliest → Earliest
behind_first_half d e =
    record { part = option_map (λ k. 2 ^ d + k) e.part; put = 2 ^ d + e.put }
