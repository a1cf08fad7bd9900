-- Points that get the ends of another frame, row by row.
use Rattle.std.proofs.Common.{◌≡◌, ℕ, zero, suc, ◌+◌, ◌<◌, ◌≤◌, min, List, [], ◌∷◌, ◌++◌, length, get_or, take, drop, set, sym, refl, ap, ◌∙◌, inl, inr, arith}
use Rattle.std.proofs.lemmas.List.{at_drop_more, at_drop_all, take_all, take_more_set, drop-set-lt, append_assoc, append-nil, take-append-drop}
use Rattle.std.proofs.lemmas.Bool.{cases_lt}
use Rattle.sheet.specs.declared.rows.Point.{Point}
use Rattle.frames.specs.Comparing.{toward, ending_at}

-- row i gets its end
pub ending_more : (ps fs : List Point) (i : ℕ) (d e q : Point) (ends : List Point) → i < length ps → i < length fs → q ≡ toward (get_or ps i d) (get_or fs i e) → take i ps ++ ending_at (drop i ps) (drop i fs) ≡ ends → take (i + 1) (set ps i q) ++ ending_at (drop (i + 1) (set ps i q)) (drop (i + 1) fs) ≡ ends
ending_more ps fs i d e q ends h k row before =
    rw (take_more_set ps i q h, append_assoc, drop-set-lt (i + 1) ps i q (omega arith), row, ← before, at_drop_more (λ t. ending_at t (drop i fs)) ps i d h, at_drop_more (λ t. ending_at (get_or ps i d ∷ drop (i + 1) ps) t) fs i e k) refl

no_frame : (ps : List Point) → ending_at ps [] ≡ ps
no_frame [] = refl
no_frame (p ∷ ps) = refl

-- one of the two has no row i
pub ending_all : (ps fs : List Point) (i : ℕ) (ends : List Point) → min (length ps) (length fs) ≤ i → take i ps ++ ending_at (drop i ps) (drop i fs) ≡ ends → ps ≡ ends
ending_all ps fs i ends h before =
    elim (cases_lt i (length ps)) [
      | inl k ↦ sym (take-append-drop i ps) ∙ ap (λ t. take i ps ++ t) (sym (at_drop_all (λ t. ending_at (drop i ps) t) fs i (omega arith) ∙ no_frame (drop i ps))) ∙ before
      | inr k ↦ sym (append-nil (take i ps) ∙ take_all i ps k) ∙ ap (λ t. take i ps ++ t) (sym (at_drop_all (λ t. ending_at t (drop i fs)) ps i k)) ∙ before
    ]

pub take-ending_at : (n : ℕ) (ps fs : List Point) → take n (ending_at ps fs) ≡ ending_at (take n ps) (take n fs)
take-ending_at zero ps fs = refl
take-ending_at (suc n) [] fs = refl
take-ending_at (suc n) (p ∷ ps) [] = refl
take-ending_at (suc n) (p ∷ ps) (f ∷ fs) = ap (λ t. toward p f ∷ t) (take-ending_at n ps fs)
