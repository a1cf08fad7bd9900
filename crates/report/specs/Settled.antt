-- What printed lines settle: of two faces each test has its line, or surely stays apart.
use Rattle.std.specs.Prelude.{◌≡◌, ◌⊎◌, ℕ, ◌<◌, Bool, IsTrue, List, All, Any, Contains, length, Option, codes, nat_eq}
use Rattle.std.specs.List.{starts_with}
use Rattle.sheet.specs.Lines.{lines_of}
use Rattle.motion.specs.Laws.{Apart}
use Rattle.inspection.specs.declared.offerings.Offering.{Offering}
use Rattle.inspection.specs.declared.offerings.Offering.TheVariants.{Faces}
use Rattle.inspection.specs.Offerings.{SameOffering}
use Rattle.inspection.specs.Sheets.{Sheet}
use Rattle.inspection.specs.Tests.{Naming, vf_naming, ee_naming}
use Rattle.report.specs.Lines.{vf_line, ee_line}

-- one of the text's lines is this one, with some window
abbrev pub IsTold : List ℕ → (Option (ℕ × ℕ) → List ℕ) → Type 0
IsTold text line = (window : Option (ℕ × ℕ)) × Contains (lines_of text) (line window)

-- of two faces: each test of one kind has a point in common, or is told, or stays apart for the whole
-- step
abbrev pub TestsSettled : {E : Type 0}
    → Naming E → (E → Option (ℕ × ℕ) → List ℕ) → Sheet → List ℕ → Offering → Type 0
TestsSettled n line s text o =
    All (λ e. IsTrue (n.shared s e) ⊎ (IsTold text (line e) ⊎ Apart (n.shape s e))) (n.tests s o)

pub record Settled (s : Sheet) (text : List ℕ) (o : Offering) : Type 0 where
  pub vf : TestsSettled vf_naming vf_line s text o
  pub ee : TestsSettled ee_naming ee_line s text o

-- one of these pairs is the same two faces
abbrev pub IsAmong : List Offering → Offering → Type 0
IsAmong pairs o = Any (SameOffering o) pairs

-- of every two different faces of the sheet but these pairs
abbrev pub SettledBut : List Offering → Sheet → List ℕ → Type 0
SettledBut refused s text =
    (f g : ℕ) → f < length s.faces → g < length s.faces → ¬ (f ≡ g)
    → ¬ IsAmong refused (Faces f g) → Settled s text (Faces f g)

-- a line that tells a fault
abbrev pub is_fault : List ℕ → Bool
is_fault line = starts_with nat_eq line (codes "fault ")
