-- The lines of a report, in bytes, without their line feeds.
use Rattle.std.specs.Prelude.{ℕ, List, [], ◌∷◌, ◌++◌, Some, None, Option, codes, decimal}
use Rattle.inspection.specs.declared.classes.Tally.{Tally}
use Rattle.inspection.specs.declared.names.VfName.{VfName}
use Rattle.inspection.specs.declared.names.EeName.{EeName}
use Rattle.motion.specs.declared.shapes.Kind.{Kind}
use Rattle.motion.specs.declared.shapes.Kind.TheVariants.{Vf, Ee}

-- the word that the lines of a list begin with
abbrev pub kind_word : Kind → List ℕ
kind_word Vf = codes "VF"
kind_word Ee = codes "EE"

-- one space before each part
abbrev pub spaced : List (List ℕ) → List ℕ
spaced [] = []
spaced (p ∷ ps) = (codes " " ++ p) ++ spaced ps

abbrev pub line : Kind → List (List ℕ) → List ℕ
line l parts = kind_word l ++ spaced parts

-- a window, which may be absent
abbrev pub window_parts : Option (ℕ × ℕ) → List (List ℕ)
window_parts None = codes "-" ∷ codes "-" ∷ []
window_parts (Some w) = decimal w.0 ∷ decimal w.1 ∷ []

-- ---- an entry, with its window
abbrev pub vf_line : VfName → Option (ℕ × ℕ) → List ℕ
vf_line n w = line Vf (decimal n.point ∷ decimal n.face ∷ window_parts w)

abbrev pub ee_line : EeName → Option (ℕ × ℕ) → List ℕ
ee_line n w = line Ee (decimal n.u ∷ decimal n.v ∷ decimal n.k ∷ decimal n.l ∷ window_parts w)

-- ---- the four counts of a kind
abbrev pub count_line : Kind → Tally → List ℕ
count_line l t =
    line l
    (codes "kept" ∷ decimal t.kept ∷ codes "struck" ∷ decimal t.struck
    ∷ codes "shared" ∷ decimal t.shared ∷ codes "repeated" ∷ decimal t.repeated ∷ [])
