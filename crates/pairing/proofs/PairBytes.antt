-- The bytes of pairs are read back as these pairs.
use Rattle.std.proofs.Common.{◌≡◌, ℕ, ◌<◌, ◌≤◌, ◌^◌, List, [], ◌∷◌, length, map, All, refl, arith}
use Rattle.std.specs.Int.{byte_at}
use Rattle.std.proofs.lemmas.Nat.{from_le_bytes-to_le_bytes_2}
use Rattle.std.proofs.lemmas.List.Elements.{All-head, All-tail}
use Rattle.inspection.specs.declared.offerings.Offering.TheVariants.{Faces}
use Rattle.near_faces.specs.declared.boxes.SweptBox.{SweptBox}
use Rattle.near_faces.specs.declared.pairs.Pair.{Pair}
use Rattle.near_faces.specs.Near.{Near}
use Rattle.plan.specs.PairBytes.{number_of, offerings_in}
use Rattle.near_faces.specs.Near.{offering_of}
use Rattle.pairing.specs.Pairings.{pairs_bytes}

number_back : (n : ℕ) → n < 2 ^ 16 → number_of (byte_at 0 n) (byte_at 1 n) ≡ n
number_back n h = omega (arith, from_le_bytes-to_le_bytes_2 n h)

module _ (boxes : List SweptBox) (few : length boxes ≤ 4096) where
  pub read_back : (ps : List Pair) → All (Near boxes) ps → offerings_in (pairs_bytes ps) ≡ map offering_of ps
  read_back [] only = refl
  read_back (p ∷ ps) only =
      let here = All-head (Near boxes) p ps only in
      let lower = here.lower_first in
      let upper = here.within in
      λ i. Faces (number_back p.first (omega (arith, lower, upper, few)) i) (number_back p.second (omega (arith, upper, few)) i) ∷ read_back ps (All-tail (Near boxes) p ps only) i
