-- Which fault comes: that of the first check that fits, of all checks in the order of the text.
use Rattle.std.specs.Prelude.{Bool, if◌then◌else◌, List, [], ◌∷◌, Some, None, Ok, Err, Option, Result, ℕ}
use Rattle.sheet.specs.declared.notices.Layer.{Layer}
use Rattle.sheet.specs.declared.notices.Notice.{Notice}

-- a row of the fault table: whether it fits, and what it then tells
pub record Check : Type 0 where
  pub fits : Bool
  pub tells : Notice

-- the fault with this number, of a layer, at two places
abbrev pub notice : ℕ → Layer → ℕ → ℕ → Notice
notice n l i j = record { number = n; layer = l; first = i; second = j }

-- it fits where b holds
abbrev pub check : Bool → ℕ → Layer → ℕ → ℕ → Check
check b n l i j = record { fits = b; tells = notice n l i j }

-- what the first check that fits tells
abbrev pub first_fit : List Check → Option Notice
first_fit [] = None
first_fit (c ∷ cs) = if c.fits then Some c.tells else first_fit cs

-- what a result tells by its fault, if it has one
abbrev pub fault_notice : {X E : Type 0} → (E → Notice) → Result X E → Option Notice
fault_notice f (Ok x) = None
fault_notice f (Err e) = Some (f e)
