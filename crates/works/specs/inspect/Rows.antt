-- Pairs that are inspected over the rows of a sheet.
use Rattle.std.specs.Prelude.{◌≡◌, ℕ, List, ◌++◌, length, flat_map, Result}
use Rattle.hosts.specs.Events.{Event, Call}
use Rattle.hosts.specs.Writing.{Written, printing, WritesSo}
use Rattle.sheet.specs.declared.drafts.Draft.{Draft}
use Rattle.sheet.specs.declared.rows.Point.{Point}
use Rattle.sheet.specs.declared.rows.Face.{Face}
use Rattle.motion.specs.Rows.{delivered}
use Rattle.inspection.specs.Claims.{WholeClaim}
use Rattle.inspection.specs.Sheets.{Sheet, sheet_in}
use Rattle.inspection.specs.declared.offerings.Offering.{Offering}
use Rattle.report.specs.Reports.{View, report_text}
use Rattle.works.specs.inspect.Walks.{Walk, just_opened, walked, refusal_written}

module _ (d : Draft) (s : Sheet) (os : List Offering) where
  -- all of these pairs, offered one after another
  abbrev pub walk_over : Walk
  walk_over = walked delivered s (just_opened d) os

  -- what is written: for each pair that is refused its line and the pair, and then the report
  abbrev pub rows_written : List Written
  rows_written =
      let found = walk_over.found in
      let view : View = record { set = delivered; core = found.core; sheet = s } in
      flat_map refusal_written walk_over.refused ++ printing (report_text view found.entries)

  -- so many are refused, and of the others nobody can say that a touch is missed
  pub record RowsEnd (n : ℕ) : Type 0 where
    pub refused : n ≡ length walk_over.refused
    pub claim : let w = walk_over in WholeClaim delivered d s w.accepted w.found.core w.found.entries.vf w.found.entries.ee

unfoldable pub InspectsRows : {S F E : Type 0} → (S → Event F → S → Type 0)
    → (S → Call F → E → S → Type 0) → Draft → List Point → List Face → List Offering
    → S → Result ℕ E → S → Type 0
InspectsRows does fails d ps fs os s r t =
    let sheet = sheet_in d ps fs in
    WritesSo does fails (rows_written d sheet os) (RowsEnd d sheet os) s r t
