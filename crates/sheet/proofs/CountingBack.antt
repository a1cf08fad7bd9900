-- What a number counts to that counts back.
use Rattle.std.proofs.Common.{arith}
use Rattle.std.proofs.lemmas.Int.{ints}
use Rattle.sheet.specs.CountingBack.{CountsBack}
use Rattle.sheet.specs.Sheet.{from_front}

pub counts_back : CountsBack
counts_back points n f g h k p q = rw (p, q) (grind (arith, ints, from_front), grind (arith, ints, from_front), grind (arith, ints, from_front))
