-- A buffer whose front is written, and then more of it.
use Rattle.std.proofs.Common.{◌≡◌, ℕ, ◌+◌, ◌-◌, ◌≤◌, List, [], ◌++◌, length, take, drop, refl, sym, ap, subst, ◌∙◌, arith, Option, Ok, Err, Result, MatchResult}
use Rattle.std.proofs.lemmas.List.{take-append-le, take_all, length-take}
use Rattle.std.proofs.Math.Seq.{take-append-add}
use Rattle.std.proofs.KnownBytes.{Consumes-trans, Consumes-kept}
use Rattle.std.specs.Io.KnownBytes.{Consumes, Keeps}
use Rattle.hosts.specs.Traces.{CutOff}

abbrev pub over : ℕ → List ℕ → List ℕ → List ℕ
over i old new = take i old ++ (new ++ drop (length old - i) (drop i old))

-- what came before stays there
over_front : (i : ℕ) (old new : List ℕ) → i ≤ length old → take i (over i old new) ≡ take i old
over_front i old new h =
    take-append-le i (take i old) (new ++ drop (length old - i) (drop i old)) (omega (arith, length-take i old)) ∙ take-take i old
  where
    take-take : (k : ℕ) (xs : List ℕ) → take k (take k xs) ≡ take k xs
    take-take k xs = take_all k (take k xs) (omega (arith, length-take k xs))

over_more : (i n : ℕ) (old new : List ℕ) → i ≤ length old → n ≤ length new → take (i + n) (over i old new) ≡ take i old ++ take n new
over_more i n old new h few =
    let rest = drop (length old - i) (drop i old) in
    let e : i ≡ length (take i old) = omega (arith, length-take i old) in
    ap (λ k. take (k + n) (over i old new)) e ∙ take-append-add (take i old) (new ++ rest) n
    ∙ ap (λ t. take i old ++ t) (take-append-le n new rest few)

-- what came before and what came now
pub came_on : (first second xs : Option (List ℕ)) (old new : List ℕ) (i n k : ℕ) → Consumes first second (take i old) → Consumes second xs (take n new)
    → i ≤ length old → n ≤ length new → k ≡ i + n → Consumes first xs (take k (over i old new))
came_on first second xs old new i n k p q h few is =
    subst (Consumes first xs) (sym (ap (λ j. take j (over i old new)) is ∙ over_more i n old new h few)) (Consumes-trans first second xs (take i old) (take n new) p q)

pub came_no_more : (first second xs : Option (List ℕ)) (old new : List ℕ) (i k : ℕ) → Consumes first second (take i old) → Keeps second xs
    → i ≤ length old → k ≡ i → Consumes first xs (take k (over i old new))
came_no_more first second xs old new i k p q h is =
    subst (Consumes first xs) (sym (ap (λ j. take j (over i old new)) is ∙ over_front i old new h)) (Consumes-kept first second xs (take i old) p q)

-- where nothing is known of the calls, any is cut off at once
pub cut_at_once : {S V C E X : Type 0} (s t : S) (event : List ℕ → V) (call : C) (bytes : List ℕ) (r : Result X E)
    → MatchResult r (λ x. Unit {0}) (λ e. CutOff (λ s v t. Unit {0}) (λ s k e t. Unit {0}) s event call bytes e t)
cut_at_once s t event call bytes (Ok x) = tt
cut_at_once s t event call bytes (Err e) = record { front = []; rest = bytes; split = refl; before = s; did = tt; failed = tt }
