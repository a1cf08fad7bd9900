-- A row of two sets that keep the laws keeps them.
use Rattle.std.proofs.Common.{ℕ, Bool, ⊎_elim}
use Rattle.std.proofs.lemmas.Bool.{or_cases, or_left, or_right}
use Rattle.motion.specs.declared.shapes.Shape.{Shape}
use Rattle.motion.specs.Laws.{LawfulBy, half}
use Rattle.motion.specs.Rows.{row}

pub row-lawful : {n : ℕ} {f g : Shape → Bool} → LawfulBy n f → LawfulBy n g → LawfulBy n (row f g)
row-lawful {n} {f} {g} p q =
    record {
      apart = λ t v h. ⊎_elim (p.apart t v) (q.apart t v) (or_cases (f t) (g t) h);
      halves = λ t v k h.
          ⊎_elim
          (λ e. let r = p.halves t v k e in (or_left (f (half 0 t)) (g (half 0 t)) r.0, or_left (f (half 1 t)) (g (half 1 t)) r.1))
          (λ e. let r = q.halves t v k e in (or_right (f (half 0 t)) (g (half 0 t)) r.0, or_right (f (half 1 t)) (g (half 1 t)) r.1))
          (or_cases (f t) (g t) h);
    }
