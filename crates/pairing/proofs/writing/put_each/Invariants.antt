use Rattle.std.proofs.Common.{◌≡◌, ◌++◌, ◌*◌, length, take, drop}
use Rattle.pairing.specs.Pairings.{pairs_bytes}
use Rattle.pairing.proofs.writing.put_each.Given as goal

abbrev pub invariant-loop-pair : goal.invariant-loop-pair
invariant-loop-pair l =
    (l.at ≡ 4 * l.pair-index)
    × (l.at ≡ length (pairs_bytes (take l.pair-index l.pairs)))
    × (l.buffer ≡ pairs_bytes (take l.pair-index l.pairs) ++ drop l.at l.initial.buffer)
