-- Pairs of faces in bytes: two numbers of two bytes each, the lower byte first.
use Rattle.std.specs.Prelude.{ℕ, ◌+◌, ◌*◌, List, [], ◌∷◌, ◌++◌}
use Rattle.std.specs.Int.{w16, to_le_bytes}
use Rattle.plan.specs.declared.pairs.PairOfferings.{PairOfferings}
use Rattle.inspection.specs.declared.offerings.Offering.{Offering}
use Rattle.inspection.specs.declared.offerings.Offering.TheVariants.{Faces}

abbrev pub number_of : ℕ → ℕ → ℕ
number_of low high = low + 256 * high

-- a rest of under four bytes is skipped
abbrev pub offerings_in : List ℕ → List Offering
offerings_in (a ∷ b ∷ c ∷ d ∷ rest) = Faces (number_of a b) (number_of c d) ∷ offerings_in rest
offerings_in bytes = []

-- what an iterator over bytes has left to give
abbrev pub offerings_left : PairOfferings → List Offering
offerings_left p = offerings_in p.bytes.now

-- the bytes that hold a pair
abbrev pub pair_bytes : Offering → List ℕ
pair_bytes (Faces f g) = to_le_bytes w16 f ++ to_le_bytes w16 g
