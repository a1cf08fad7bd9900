-- The lines of a text, one after the other.
use Rattle.std.proofs.Common.{◌≡◌, ℕ, suc, ◌+◌, ◌<◌, Bool, true, false, not, cond, eqb, List, [], ◌∷◌, length, take, drop, refl, ap, add-one, arith}
use Rattle.std.specs.List.{before_first, after_first, onto_first, position_or_len}
use Rattle.sheet.specs.Lines.{lines_of}

by_byte : (b : Bool) (x : ℕ) (xs : List ℕ) (n : ℕ) → lines_of xs ≡ take n xs ∷ lines_of (drop (n + 1) xs) → cond b ([] ∷ lines_of xs) (onto_first x (lines_of xs)) ≡ take (cond (not b) (1 + n) 0) (x ∷ xs) ∷ lines_of (drop (cond (not b) (1 + n) 0 + 1) (x ∷ xs))
by_byte true x xs n e = refl
by_byte false x xs n e = let k : 1 + n ≡ suc n = omega arith in rw (k, add-one) (ap (onto_first x) (rw add-one at e))

by_last : (b : Bool) (x : ℕ) → cond b ([] ∷ lines_of []) (onto_first x (lines_of [])) ≡ take (cond (not b) (1 + 0) 0) (x ∷ []) ∷ lines_of (drop (cond (not b) (1 + 0) 0 + 1) (x ∷ []))
by_last b x = grind arith

-- the first line, and those after it
pub lines_first : (xs : List ℕ) → 0 < length xs → lines_of xs ≡ before_first (λ b. eqb b 10) xs ∷ lines_of (after_first (λ b. eqb b 10) xs)
lines_first [] h = absurd (omega arith)
lines_first (x ∷ []) h = by_last (eqb x 10) x
lines_first (x ∷ (y ∷ ys)) h = by_byte (eqb x 10) x (y ∷ ys) (position_or_len (λ b. eqb b 10) (y ∷ ys)) (lines_first (y ∷ ys) (omega arith))
