-- The worked cases hold: each by computation.
use Rattle.std.proofs.Common.{◌≡◌, [], ◌∷◌, pos, negsuc, map, refl, arith}
use Rattle.motion.specs.Vectors.{◌+ᵛ◌, ◌-ᵛ◌, ◌·ᵛ◌, dot, cross}
use Rattle.motion.specs.Features.{first, second}
use Rattle.motion.specs.Laws.{Apart, gap, FarBy, on-x, on-y, on-z, at, after, difference}
use Rattle.motion.specs.Plane.{controls}
use Rattle.motion.specs.Rows.{delivered}
use Rattle.motion.specs.Depths.{struck_at, first_passed, last_passed, window_at}
use Rattle.motion.specs.Cases.{crossing, values, worked_tests, Cases}
use Rattle.motion.proofs.Windows.{finds-window}

-- at 1/2 the point is the mean of the corners with the weights 2, 1, 1
at-half : FarBy gap 0 8 (difference 1 2 (1 ∷ []) (first crossing) (2 ∷ 1 ∷ 1 ∷ []) (second crossing)) → ⊥
unfolding ◌+ᵛ◌ ◌-ᵛ◌ ◌·ᵛ◌ at
at-half (on-x h) = omega arith
at-half (on-y h) = omega arith
at-half (on-z h) = omega arith

never-apart : Apart crossing → ⊥
never-apart f = at-half (f 1 2 (omega arith) (omega arith) (1 ∷ []) (2 ∷ 1 ∷ 1 ∷ []) (refl, omega arith) (refl, omega arith))

pub cases : Cases
unfolding ◌+ᵛ◌ ◌-ᵛ◌ ◌·ᵛ◌ dot cross at after controls struck_at first_passed last_passed window_at
cases =
    record {
      leaving_answers = (refl, refl, refl, refl);
      crossing_answers = (refl, refl, refl, refl);
      crossing_window_0 = ((finds-window delivered 0 crossing).some 0 0 refl, refl);
      crossing_window_1 = ((finds-window delivered 1 crossing).some 0 1 refl, refl);
      crossing_window_2 = ((finds-window delivered 2 crossing).some 1 2 refl, refl);
      crossing_window_6 = ((finds-window delivered 6 crossing).some 31 32 refl, refl);
      crossing_touches = never-apart;
      landing_answers = (refl, refl, refl, refl);
      beside_answers = (refl, refl, refl, refl);
      rising_answers = (refl, refl, refl, refl);
      turning_answers = (refl, refl, refl, refl);
      turning_first_half = refl;
      turning_last_half = refl;
      turning_deeper = refl;
      sinking_answers = (refl, refl, refl, refl);
    }

pub worked_values :
    map controls worked_tests
    ≡ values (pos 48) (pos 80) (pos 112) (pos 144) ∷ values (pos 48) (pos 16) (negsuc 15) (negsuc 47)
    ∷ values (pos 48) (pos 32) (pos 16) (pos 0) ∷ values (pos 0) (pos 0) (pos 0) (pos 0)
    ∷ values (pos 48) (pos 48) (pos 48) (pos 48) ∷ values (pos 6) (pos 0) (pos 0) (pos 6)
    ∷ values (negsuc 47) (negsuc 15) (pos 16) (pos 48) ∷ []
unfolding ◌+ᵛ◌ ◌-ᵛ◌ ◌·ᵛ◌ dot cross at controls
worked_values = refl
