-- Texts that are whole lines, each ended by a line feed, and which bytes such lines have.
use Rattle.std.proofs.Common.{◌≡◌, ℕ, zero, suc, ◌/◌, ◌%◌, Bool, true, false, not, ◌&&◌, cond, eqb, List, [], ◌∷◌, ◌++◌, map, flat_map, refl, sym, ap, ap₂, ◌∙◌, append_assoc, append-nil, arith}
use Rattle.std.specs.Prelude.{codes, decimal}
use Rattle.std.specs.Fmt.{digit_glyph, digits, digits_onto}
use Rattle.std.specs.List.{list_all, onto_first}
use Rattle.std.proofs.lemmas.Bool.{and_from, and_parts}
use Rattle.std.proofs.lemmas.List.Folds.{list_all-append}
use Rattle.sheet.specs.Lines.{lines_of}

-- no line feed among these bytes
abbrev pub no_feed : List ℕ → Bool
no_feed bs = list_all (λ b. not (eqb b 10)) bs

-- these lines and nothing else
abbrev pub AreLines : List ℕ → List (List ℕ) → Type 0
AreLines text ls = (rest : List ℕ) → lines_of (text ++ rest) ≡ ls ++ lines_of rest

pub are_none : AreLines [] []
are_none rest = refl

by_first : (x : ℕ) (xs rest : List ℕ) (b : Bool) → eqb x 10 ≡ b → not b ≡ true → lines_of (xs ++ (10 ∷ rest)) ≡ xs ∷ lines_of rest → cond (eqb x 10) ([] ∷ lines_of (xs ++ (10 ∷ rest))) (onto_first x (lines_of (xs ++ (10 ∷ rest)))) ≡ (x ∷ xs) ∷ lines_of rest
by_first x xs rest true is other e = cc
by_first x xs rest false is other e = rw (is, e) refl

first_line : (l rest : List ℕ) → no_feed l ≡ true → lines_of (l ++ (10 ∷ rest)) ≡ l ∷ lines_of rest
first_line [] rest h = refl
first_line (x ∷ xs) rest h = let p = and_parts (not (eqb x 10)) (no_feed xs) h in by_first x xs rest (eqb x 10) refl p.0 (first_line xs rest p.1)

pub are_one : (l : List ℕ) → no_feed l ≡ true → AreLines (l ++ codes "\n") (l ∷ [])
are_one l h rest = ap lines_of (append_assoc l (10 ∷ []) rest) ∙ first_line l rest h

pub are_more : (a b : List ℕ) (ls ms : List (List ℕ)) → AreLines a ls → AreLines b ms → AreLines (a ++ b) (ls ++ ms)
are_more a b ls ms p q rest = ap lines_of (append_assoc a b rest) ∙ p (b ++ rest) ∙ ap (λ ns. ls ++ ns) (q rest) ∙ sym (append_assoc ls ms (lines_of rest))

pub are_each : {X : Type 0} (line : X → List ℕ) → ((x : X) → no_feed (line x) ≡ true) → (xs : List X) → AreLines (flat_map (λ x. line x ++ codes "\n") xs) (map line xs)
are_each line h [] = are_none
are_each line h (x ∷ xs) = are_more (line x ++ codes "\n") (flat_map (λ y. line y ++ codes "\n") xs) (line x ∷ []) (map line xs) (are_one (line x) (h x)) (are_each line h xs)

pub lines_are : (text : List ℕ) (ls : List (List ℕ)) → AreLines text ls → lines_of text ≡ ls
lines_are text ls p = ap lines_of (sym (append-nil text)) ∙ p [] ∙ append-nil ls

-- ---- lines that are put together from words and numbers
pub no_feed-append : (a b : List ℕ) → no_feed a ≡ true → no_feed b ≡ true → no_feed (a ++ b) ≡ true
no_feed-append a b p q = list_all-append (λ b. not (eqb b 10)) a b ∙ ap₂ (λ x y. x && y) p q

-- one part after the other
abbrev pub joined : List (List ℕ) → List ℕ
joined [] = []
joined (p ∷ []) = p
joined (p ∷ q ∷ ps) = p ++ joined (q ∷ ps)

pub no_feed-joined : (ps : List (List ℕ)) → list_all no_feed ps ≡ true → no_feed (joined ps) ≡ true
no_feed-joined [] h = refl
no_feed-joined (p ∷ []) h = (and_parts (no_feed p) true h).0
no_feed-joined (p ∷ q ∷ ps) h =
    let both = and_parts (no_feed p) (list_all no_feed (q ∷ ps)) h in
    no_feed-append p (joined (q ∷ ps)) both.0 (no_feed-joined (q ∷ ps) both.1)

glyph : (d : ℕ) → not (eqb (digit_glyph false d) 10) ≡ true
glyph d = grind arith

onto : (k n : ℕ) (acc : List ℕ) → no_feed acc ≡ true → no_feed (digits_onto k 10 false n acc) ≡ true
onto zero n acc h = h
onto (suc k) n acc h = go (eqb (n / 10) 0) (onto k (n / 10) (digit_glyph false (n % 10) ∷ acc) more)
  where
    more : no_feed (digit_glyph false (n % 10) ∷ acc) ≡ true
    more = and_from _ _ (glyph (n % 10)) h

    go : (b : Bool) → no_feed (digits_onto k 10 false (n / 10) (digit_glyph false (n % 10) ∷ acc)) ≡ true
        → no_feed (cond b (digit_glyph false (n % 10) ∷ acc) (digits_onto k 10 false (n / 10) (digit_glyph false (n % 10) ∷ acc))) ≡ true
    go true rest = more
    go false rest = rest

pub no_feed-decimal : (n : ℕ) → no_feed (decimal n) ≡ true
unfolding digits
no_feed-decimal n = onto 64 n [] refl
