-- Two frames of one sheet: how they differ, and the step between them.
use Rattle.std.specs.Prelude.{ℕ, Bool, if◌then◌else◌, not, ◌&&◌, List, [], ◌∷◌, take, Some, Option, option_map, ◌==◌}
use Rattle.std.specs.List.{position, zip, count_by}
use Rattle.sheet.specs.declared.drafts.Draft.{Draft}
use Rattle.sheet.specs.declared.rows.Face.{Face}
use Rattle.sheet.specs.declared.rows.Point.{Point}
use Rattle.step.specs.Record.{is_moving}
use Rattle.frames.specs.declared.comparing.Difference.{Difference}
use Rattle.frames.specs.declared.comparing.Difference.TheVariants as difference

abbrev pub same_face : Face → Face → Bool
same_face f g = f.a == g.a && (f.b == g.b && f.c == g.c)

-- the first row in which two tables differ
abbrev pub first_other : List Face → List Face → Option ℕ
first_other fs gs = position (λ p. not (same_face p.0 p.1)) (zip fs gs)

-- the first way in which two frames differ: their points, their faces, or a face
abbrev pub difference_of : Draft → List Face → Draft → List Face → Option Difference
difference_of d fs e gs =
    if d.points == e.points then
    if d.faces == e.faces then
    option_map difference.Face (first_other (take d.faces fs) (take d.faces gs))
    else Some (difference.Faces d.faces e.faces)
    else Some (difference.Points d.points e.points)

-- a point that ends where another starts
abbrev pub toward : Point → Point → Point
toward p q = record { start = p.start; end = q.start }

-- points that end where the same rows of another frame start; rows past the frame's stay
abbrev pub ending_at : List Point → List Point → List Point
ending_at [] qs = []
ending_at (p ∷ ps) [] = p ∷ ps
ending_at (p ∷ ps) (q ∷ qs) = toward p q ∷ ending_at ps qs

-- how many points move
abbrev pub moving_in : List Point → ℕ
moving_in ps = count_by is_moving ps
