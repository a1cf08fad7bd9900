-- The lines that tell what comes of two frames.
use Rattle.std.specs.Prelude.{ℕ, List, ◌++◌, codes, decimal}
use Rattle.frames.specs.declared.comparing.Difference.{Difference}
use Rattle.frames.specs.declared.comparing.Difference.TheVariants.{Points, Faces, Face}

abbrev pub counts_line : ℕ → ℕ → List ℕ → List ℕ
counts_line a b things =
    codes "the frames have " ++ (decimal a
    ++ (codes " and " ++ (decimal b
    ++ things)))

abbrev pub difference_line : Difference → List ℕ
difference_line (Points a b) = counts_line a b (codes " points")
difference_line (Faces a b) = counts_line a b (codes " faces")
difference_line (Face i) = codes "the frames differ in face " ++ decimal i

-- how many points a step has, how many of them move, and how many bytes its record has
abbrev pub step_line : ℕ → ℕ → ℕ → List ℕ
step_line points moved bytes =
    codes "step " ++ (decimal points
    ++ (codes " points, " ++ (decimal moved
    ++ (codes " moved, " ++ (decimal bytes
    ++ codes " bytes")))))
