-- Cases worked out by hand, as one statement about the rules.
use Rattle.std.specs.Prelude.{◌≡◌, ℕ, List, [], ◌∷◌, All, Some, None, Option, ℤ, pos, neg_ℤ, codes}
use Rattle.sheet.specs.Checks.{first_fit, notice}
use Rattle.sheet.specs.Lines.{numbered_lines}
use Rattle.sheet.specs.Sheet.{point_limit, face_limit, points_in, faces_in, sheet_checks}
use Rattle.sheet.specs.declared.notices.Layer.{Layer}
use Rattle.sheet.specs.declared.notices.Layer.TheVariants as layer
use Rattle.sheet.specs.declared.notices.Notice.{Notice}
use Rattle.sheet.specs.declared.rows.Coords.{Coords}
use Rattle.sheet.specs.declared.rows.Face.{Face}
use Rattle.sheet.specs.declared.rows.Point.{Point}
use Rattle.step.specs.Record.{point_record}
use Rattle.step.specs.Laying.{lay_checks}
use Rattle.motion.specs.Cases.{Cases, crossing, landing}
use Rattle.motion.specs.Rows.{delivered}
use Rattle.inspection.specs.declared.classes.Class.TheVariants.{Kept}
use Rattle.inspection.specs.declared.names.VfName.{VfName}
use Rattle.inspection.specs.Sheets.{Sheet, sheet_of}
use Rattle.inspection.specs.Tests.{vf_naming}
use Rattle.inspection.specs.Classes.{class_of, rules_at}
use Rattle.inspection.specs.Runs.{depth_checks}

abbrev coords : ℤ → ℤ → ℤ → Coords
coords x y z = record { x = x; y = y; z = z }

-- coordinates, none of them below zero
abbrev coords_of : ℕ → ℕ → ℕ → Coords
coords_of x y z = coords (pos x) (pos y) (pos z)

abbrev at_rest_at : Coords → Point
at_rest_at p = record { start = p; end = p }

-- the point (1,1,1), which goes to (1,1,z)
abbrev pub falling_to : ℤ → Point
falling_to z = record { start = coords_of 1 1 1; end = coords (pos 1) (pos 1) z }

-- to (1,1,−1), through the face below it; and to (1,1,0), onto that face
abbrev pub falling : Point
falling = falling_to (neg_ℤ (pos 1))

abbrev pub falling_onto : Point
falling_onto = falling_to (pos 0)

-- ---- a sheet of four points: the points 0, 1 and 2 rest, and are the corners of its face 0
abbrev pub sheet_with : Point → Sheet
sheet_with p =
    sheet_of
    (at_rest_at (coords_of 0 0 0) ∷ at_rest_at (coords_of 4 0 0) ∷ at_rest_at (coords_of 0 4 0) ∷ p ∷ [])
    (record { a = 0; b = 1; c = 2 } ∷ [])

-- the point 3 against the face 0
abbrev pub vf_name : VfName
vf_name = record { point = 3; face = 0 }

-- the test of that name is kept, with the delivered filter at a depth and an empty list
abbrev pub IsKeptAt : Sheet → ℕ → Type 0
IsKeptAt s depth = class_of (rules_at vf_naming delivered depth s) [] vf_name ≡ Kept

abbrev pub depths : List ℕ
depths = 0 ∷ 1 ∷ 2 ∷ 3 ∷ 4 ∷ 5 ∷ 6 ∷ []

-- the fault of a record, laid onto one point that rests at (1,1,1)
abbrev pub fault_laid : List ℕ → Option Notice
fault_laid bytes = first_fit (lay_checks 1 (at_rest_at (coords_of 1 1 1) ∷ []) bytes)

-- the fault of a text, read into the largest tables
abbrev pub fault_read : List ℕ → Option Notice
fault_read text = first_fit (sheet_checks text point_limit face_limit)

-- the points that a text says
abbrev pub points_read : List ℕ → List Point
points_read text = points_in (numbered_lines text)

-- the faces that a text says
abbrev pub faces_read : List ℕ → List Face
faces_read text = faces_in (numbered_lines text)

-- the fault of a depth
abbrev pub fault_opened : ℕ → Option Notice
fault_opened depth = first_fit (depth_checks depth)

abbrev pub told : ℕ → Layer → ℕ → ℕ → Option Notice
told n l i k = Some (notice n l i k)

-- of three records, four texts and a depth
abbrev pub worked_faults : List (Option Notice)
worked_faults =
    fault_laid (8 ∷ []) ∷ fault_laid (1 ∷ 0 ∷ 0 ∷ []) ∷ fault_laid (1 ∷ [])
    ∷ fault_read (codes "v 1 2") ∷ fault_read (codes "v 0 0 0\nv 0 0 0\nf 1 1 2")
    ∷ fault_read (codes "v 4097 0 0") ∷ fault_read (codes "v 0 0 0\nv 0 0 0\nv 0 0 0\nf 1 -3 2")
    ∷ fault_opened 7 ∷ []

pub record WorkedCases : Type 0 where
  -- the cases of moving features
  pub geometric : Cases
  -- the point that crosses the face, and the one that lands on it, by their names: they are kept
  pub crossing_named : vf_naming.shape (sheet_with falling) vf_name ≡ crossing
  pub crossing_kept : All (IsKeptAt (sheet_with falling)) depths
  pub landing_named : vf_naming.shape (sheet_with falling_onto) vf_name ≡ landing
  pub landing_kept : All (IsKeptAt (sheet_with falling_onto)) depths
  -- a step's record: hexadecimal 04 FE FF, then 08, 01 00 00 and 01
  pub recorded : point_record falling ≡ 4 ∷ 254 ∷ 255 ∷ []
  pub map_too_large : fault_laid (8 ∷ []) ≡ told 9 layer.Step 0 0
  pub move_of_zero : fault_laid (1 ∷ 0 ∷ 0 ∷ []) ≡ told 10 layer.Step 0 1
  pub ends_early : fault_laid (1 ∷ []) ≡ told 8 layer.Step 0 1
  -- texts
  pub field_missing : fault_read (codes "v 1 2") ≡ told 1 layer.Field 1 3
  pub named_before : fault_read (codes "v 0 0 0\nv 0 0 0\nf 1 1 2") ≡ told 5 layer.Line 3 2
  pub greatest_passes : fault_read (codes "v 4096 0 0") ≡ None
  pub greatest_read : points_read (codes "v 4096 0 0") ≡ at_rest_at (coords_of 4096 0 0) ∷ []
  pub past_greatest : fault_read (codes "v 4097 0 0") ≡ told 3 layer.Line 1 1
  -- numbers that count back: face 0, 1, 2, and one point named both ways
  pub counts_back : faces_read (codes "v 0 0 0\nv 0 0 0\nv 0 0 0\nf -3 -2 -1") ≡ record { a = 0; b = 1; c = 2 } ∷ []
  pub counting_back_passes : fault_read (codes "v 0 0 0\nv 0 0 0\nv 0 0 0\nf -3 -2 -1") ≡ None
  pub named_both_ways : fault_read (codes "v 0 0 0\nv 0 0 0\nv 0 0 0\nf 1 -3 2") ≡ told 5 layer.Line 4 2
  -- depths
  pub deepest_passes : fault_opened 6 ≡ None
  pub too_deep : fault_opened 7 ≡ told 15 layer.Opening 7 0
