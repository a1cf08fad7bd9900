-- Laying a record onto the first rows of a table.
use Rattle.std.proofs.Common.{◌≡◌, ℕ, ◌≤◌, true, cond, ltb, List, [], ◌∷◌, length, take, drop, is_ok, IfOk, None, Ok, Err, Result, sym, refl, ap, ◌∙◌, subst, arith}
use Rattle.sheet.specs.declared.notices.Layer.TheVariants as layer
use Rattle.std.proofs.lemmas.List.{take_at, length-take-le}
use Rattle.std.proofs.lemmas.Bool.{le-ltb, ltb-false}
use Rattle.sheet.specs.Checks.{first_fit, fault_notice, check}
use Rattle.sheet.specs.Sheet.{onto_front}
use Rattle.sheet.specs.declared.rows.Point.{Point}
use Rattle.sheet.proofs.FirstFit.{no_fit}
use Rattle.step.specs.Faults.{notice_of_step}
use Rattle.step.specs.Laying.{after_row, rows_checks, with_ends, lay_checks}
use Rattle.step.specs.Steps.{Step}
use Rattle.step.specs.declared.faults.StepFault.{StepFault}
use Rattle.step.proofs.FieldLaws.{Bytes}
use Rattle.step.proofs.StepLaws.{rows_back, rows_only}

pub length_with_ends : (ps : List Point) (bs : List ℕ) → length (with_ends ps bs) ≡ length ps
length_with_ends [] bs = refl
length_with_ends (p ∷ ps) bs = let h = length_with_ends ps (after_row bs) in omega arith

front_of : (n : ℕ) (points after : List Point) (bs : List ℕ) → n ≤ length points → after ≡ onto_front (with_ends (take n points) bs) points → take n after ≡ with_ends (take n points) bs
front_of n points after bs h e =
    let l : length (with_ends (take n points) bs) ≡ n = length_with_ends (take n points) bs ∙ length-take-le n points h in
    ap (take n) e ∙ take_at (with_ends (take n points) bs) (drop (length (with_ends (take n points) bs)) points) n l

-- only what the writer makes is accepted
pub lay_only : (r : Result (Unit {0}) StepFault) (n : ℕ) (points after : List Point) (bs : List ℕ) → Bytes bs → fault_notice notice_of_step r ≡ first_fit (lay_checks n points bs) → after ≡ cond (is_ok r) (onto_front (with_ends (take n points) bs) points) points → IfOk r (λ _. Step (take n points) bs (take n after))
lay_only (Ok x) n points after bs B a t =
    let c = no_fit (check (ltb (length points) n) 13 layer.Step 0 0) (rows_checks 0 (take n points) bs) (sym a) in
    subst (Step (take n points) bs) (sym (front_of n points after bs (ltb-false (length points) n c.0) t)) (rows_only 0 (take n points) bs B c.1)
lay_only (Err e) n points after bs B a t = tt

was_good : (r : Result (Unit {0}) StepFault) → fault_notice notice_of_step r ≡ None → is_ok r ≡ true
was_good r e = grind arith

-- what the writer makes is accepted, and gives its rows back
pub lay_back : (r : Result (Unit {0}) StepFault) (n : ℕ) (points after qs : List Point) (bs : List ℕ) → fault_notice notice_of_step r ≡ first_fit (lay_checks n points bs) → after ≡ cond (is_ok r) (onto_front (with_ends (take n points) bs) points) points → n ≤ length points → Step (take n points) bs qs → (is_ok r ≡ true) × (take n after ≡ qs)
lay_back r n points after qs bs a t h s =
    let b = rows_back 0 (take n points) qs s.0 in
    let g : first_fit (lay_checks n points bs) ≡ None
    = rw (le-ltb (length points) n h) (ap (λ l. first_fit (rows_checks 0 (take n points) l)) (sym s.1) ∙ b.0) in
    let ok = was_good r (a ∙ g) in
    (ok, front_of n points after bs h (t ∙ ap (λ v. cond v (onto_front (with_ends (take n points) bs) points) points) ok) ∙ ap (with_ends (take n points)) (sym s.1) ∙ b.1)
