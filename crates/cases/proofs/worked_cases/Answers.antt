-- The worked cases hold: each by computation.
use Rattle.std.proofs.Common.{All, refl}
use Rattle.std.proofs.lemmas.List.Elements.{All-from_recursion}
use Rattle.motion.specs.Vectors.{◌+ᵛ◌, ◌-ᵛ◌, ◌·ᵛ◌, dot, cross}
use Rattle.motion.specs.Laws.{at, after}
use Rattle.motion.specs.Plane.{controls}
use Rattle.motion.specs.Depths.{struck_at}
use Rattle.motion.proofs.Worked.{cases}
use Rattle.cases.specs.Worked.{IsKeptAt, depths, sheet_with, falling, falling_onto}
use Rattle.cases.proofs.worked_cases.Goals as goal

-- at each of the seven depths some subinterval is passed
crossing-kept : All (IsKeptAt (sheet_with falling)) depths
unfolding ◌+ᵛ◌ ◌-ᵛ◌ ◌·ᵛ◌ dot cross at after controls struck_at
crossing-kept = All-from_recursion (IsKeptAt (sheet_with falling)) depths (refl, (refl, (refl, (refl, (refl, (refl, (refl, tt)))))))

landing-kept : All (IsKeptAt (sheet_with falling_onto)) depths
unfolding ◌+ᵛ◌ ◌-ᵛ◌ ◌·ᵛ◌ dot cross at after controls struck_at
landing-kept = All-from_recursion (IsKeptAt (sheet_with falling_onto)) depths (refl, (refl, (refl, (refl, (refl, (refl, (refl, tt)))))))

pub returns-clause-cases : goal.returns-clause-cases
returns-clause-cases c =
    record {
      geometric = cases;
      crossing_named = refl;
      crossing_kept = crossing-kept;
      landing_named = refl;
      landing_kept = landing-kept;
      recorded = refl;
      map_too_large = refl;
      move_of_zero = refl;
      ends_early = refl;
      field_missing = refl;
      named_before = refl;
      greatest_passes = refl;
      greatest_read = refl;
      past_greatest = refl;
      counts_back = refl;
      counting_back_passes = refl;
      named_both_ways = refl;
      deepest_passes = refl;
      too_deep = refl;
    }
