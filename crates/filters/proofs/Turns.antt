-- One turn of the search through the halves.
use Rattle.std.proofs.Common.{◌≡◌, ℕ, suc, ◌+◌, ◌≤◌, Bool, true, ◌&&◌, sym, ap, ◌∙◌, arith}
use Rattle.motion.specs.declared.shapes.Shape.{Shape}
use Rattle.motion.specs.Laws.{half, Lawful, Valid}
use Rattle.motion.specs.Depths.{struck_at}
use Rattle.motion.proofs.DepthLaws.{struck-whole, struck-step, whole-struck}

module _ (set : Shape → Bool) (d : ℕ) (t : Shape) where
  -- what is struck whole
  pub all_struck : Lawful set → Valid t → t.scale + d ≤ 6 → true ≡ set t → true ≡ struck_at set d t
  all_struck l v k h = sym (whole-struck set l d t v k (sym h))

  -- the halves decide
  pub halves_step : struck_at set (d + 1) t ≡ (struck_at set d (half 0 t) && struck_at set d (half 1 t))
  halves_step = let e : d + 1 ≡ suc d = omega arith in rw e (struck-step set d t)

  -- at depth 0 the whole decides
  pub whole_step : d ≡ 0 → struck_at set d t ≡ set t
  whole_step e = ap (λ (n : ℕ). struck_at set n t) e ∙ struck-whole set t
