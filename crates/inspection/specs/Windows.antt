-- The window of an entry and the earliest part that may have a touch: the checks, in their order,
-- and the answers where none fits.
use Rattle.std.specs.Prelude.{◌≡◌, ℕ, Bool, false, not, List, [], ◌∷◌, length, Some, None, Option, Result, IfOk, IfSome, nat_le, slice_get}
use Rattle.sheet.specs.Checks.{Check, first_fit, fault_notice, check}
use Rattle.sheet.specs.declared.notices.Layer.TheVariants.{Window}
use Rattle.sheet.specs.declared.rows.Point.{Point}
use Rattle.sheet.specs.declared.rows.Face.{Face}
use Rattle.motion.specs.declared.shapes.Shape.{Shape}
use Rattle.motion.specs.Depths.{window_at, WindowMeans}
use Rattle.motion.specs.Earliest.{EarliestMeans, first_of}
use Rattle.filters.specs.FirstParts.{earliest_at}
use Rattle.filters.specs.declared.first_parts.Earliest.{Earliest}
use Rattle.inspection.specs.declared.faults.WindowFault.{WindowFault}
use Rattle.inspection.specs.Faults.{notice_of_window}
use Rattle.inspection.specs.Sheets.{Sheet, sheet_in}
use Rattle.inspection.specs.Tests.{Naming}
use Rattle.inspection.specs.Lists.{Contents}
use Rattle.inspection.specs.States.{Core}
use Rattle.inspection.specs.Offers.{lacks_rows}

-- an entry has a number that is not of the sheet_here
abbrev pub is_stray : {E : Type 0} → (E → Bool) → Option E → Bool
is_stray inside None = false
is_stray inside (Some e) = not (inside e)

abbrev pub window_of : {E : Type 0}
    → (Shape → Bool) → ℕ → (E → Shape) → Option E → Option (ℕ × ℕ)
window_of set d shape None = None
window_of set d shape (Some e) = window_at set d (shape e)

-- of the entry i of a list: what its numbers have to be, and the test that it names
module _
    {E : Type 0} (n : Naming E) (ps : List Point) (fs : List Face)
    (c : Core) (h : Contents E) (i : ℕ) where
  abbrev sheet_here : Sheet
  sheet_here = sheet_in c.draft ps fs

  unfoldable pub window_checks : List Check
  window_checks =
      check (lacks_rows c.draft ps fs) 16 Window 0 0
      ∷ check (nat_le (length h.entries) i) 22 Window i 0
      ∷ check (is_stray (n.inside sheet_here) (slice_get h.entries i)) 19 Window i 0 ∷ []

  -- of a filter's set at the depth now set
  pub record WindowAnswer (set : Shape → Bool) (r : Result (Option (ℕ × ℕ)) WindowFault)
      : Type 0 where
    pub fault : fault_notice notice_of_window r ≡ first_fit window_checks
    pub value : IfOk r (λ w. w ≡ window_of set c.depth (n.shape sheet_here) (slice_get h.entries i))
    pub meaning : IfOk r (λ w.
        IfSome (slice_get h.entries i) (λ e. WindowMeans set c.depth (n.shape sheet_here e) w))

  -- with how many parts are put to the filter, and that it is the first of the window
  pub record EarliestAnswer (set : Shape → Bool) (r : Result Earliest WindowFault) : Type 0 where
    pub fault : fault_notice notice_of_window r ≡ first_fit window_checks
    pub value : IfOk r (λ a.
        IfSome (slice_get h.entries i) (λ e. a ≡ earliest_at set c.depth (n.shape sheet_here e)))
    pub window : IfOk r (λ a. let w = window_of set c.depth (n.shape sheet_here) (slice_get h.entries i) in
        a.part ≡ first_of w)
    pub meaning : IfOk r (λ a.
        IfSome (slice_get h.entries i) (λ e. EarliestMeans set c.depth (n.shape sheet_here e) a.part))
