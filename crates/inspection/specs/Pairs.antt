-- The fifteen tests of two faces, in their order.
use Rattle.std.specs.Prelude.{ℕ, List, [], ◌∷◌, ◌++◌, map, flat_map}
use Rattle.sheet.specs.declared.rows.Face.{Face}
use Rattle.inspection.specs.declared.names.VfName.{VfName}
use Rattle.inspection.specs.declared.names.EeName.{EeName}
use Rattle.inspection.specs.declared.names.Edge.{Edge}
use Rattle.inspection.specs.Names.{edge_of, ee_name_of}

-- each corner of a face against the face with this number
abbrev pub corners_against : Face → ℕ → List VfName
corners_against f n =
    record { point = f.a; face = n } ∷ record { point = f.b; face = n }
    ∷ record { point = f.c; face = n } ∷ []

-- the corners of f against g, then those of g against f; m and n are their numbers
abbrev pub vf_tests : ℕ → Face → ℕ → Face → List VfName
vf_tests m f n g = corners_against f n ++ corners_against g m

abbrev pub edges : Face → List Edge
edges f = edge_of f.a f.b ∷ edge_of f.b f.c ∷ edge_of f.c f.a ∷ []

-- each edge of the first, against those of the second
abbrev pub edges_against : List Edge → List Edge → List EeName
edges_against es fs = flat_map (λ e. map (ee_name_of e) fs) es

abbrev pub ee_tests : Face → Face → List EeName
ee_tests f g = edges_against (edges f) (edges g)
