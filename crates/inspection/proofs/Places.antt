-- Places of a list's table: their names beside their marks, and a mark that is written over.
use Rattle.std.proofs.Common.{◌≡◌, ℕ, zero, suc, Bool, ◌||◌, List, [], ◌∷◌, ◌++◌, take, drop, set, get_or, refl, ap, ◌∙◌}
use Rattle.std.specs.List.{list_any}
use Rattle.inspection.specs.declared.marks.Mark.{Mark}
use Rattle.inspection.specs.declared.marks.Marked.{Marked}
use Rattle.inspection.specs.Marks.{new_entry}
use Rattle.inspection.specs.Lists.{names, marks, places, has}

module _ {E : Type 0} where
  pub whole_table : (n : ℕ) (ps : List (Marked E)) → places (names (take n ps)) (marks (take n ps)) ++ drop n ps ≡ ps
  whole_table zero ps = refl
  whole_table (suc n) [] = refl
  whole_table (suc n) (p ∷ ps) = ap (λ qs. p ∷ qs) (whole_table n ps)

  any-named : (same : E → E → Bool) (e : E) (ps : List (Marked E)) → list_any (λ p. same e p.name) ps ≡ has same e (names ps)
  any-named same e [] = refl
  any-named same e (p ∷ ps) = ap (λ b. same e p.name || b) (any-named same e ps)

  pub held_by_name : (same : E → E → Bool) (e : E) (es : List E) (ps : List (Marked E)) (x : Marked E) (b : Bool) → names ps ≡ es → x ≡ new_entry e → b ≡ has (λ p q. same p.name q.name) x ps → b ≡ has same e es
  held_by_name same e es ps x b is new held = held ∙ ap (λ (y : Marked E). has (λ p q. same p.name q.name) y ps) new ∙ any-named same e ps ∙ ap (has same e) is

  -- a mark is written over
  pub names_stay : (ps : List (Marked E)) (n i : ℕ) (m : Mark) (d : Marked E) → names (take n (set ps i (record { name = (get_or ps i d).name; mark = m }))) ≡ names (take n ps)
  names_stay ps zero i m d = refl
  names_stay [] (suc n) i m d = refl
  names_stay (p ∷ ps) (suc n) zero m d = refl
  names_stay (p ∷ ps) (suc n) (suc i) m d = ap (λ es. p.name ∷ es) (names_stay ps n i m d)

  pub mark_written : (ps : List (Marked E)) (n i : ℕ) (m : Mark) (e : E) → marks (take n (set ps i (record { name = e; mark = m }))) ≡ set (marks (take n ps)) i m
  mark_written ps zero i m e = refl
  mark_written [] (suc n) i m e = refl
  mark_written (p ∷ ps) (suc n) zero m e = refl
  mark_written (p ∷ ps) (suc n) (suc i) m e = ap (λ ms. p.mark ∷ ms) (mark_written ps n i m e)
