-- What comes of a search, written.
use Rattle.std.proofs.Common.{◌≡◌, List, Some, None, Result}
use Rattle.hosts.specs.Events.{Event, Call}
use Rattle.hosts.specs.Writing.{printing, Writes, writes_of}
use Rattle.sheet.specs.Checks.{first_fit}
use Rattle.sheet.specs.declared.drafts.Draft.{Draft}
use Rattle.sheet.specs.declared.notices.Notice.{Notice}
use Rattle.sheet.specs.declared.rows.Point.{Point}
use Rattle.sheet.specs.declared.rows.Face.{Face}
use Rattle.inspection.specs.Sheets.{sheet_in}
use Rattle.near_faces.specs.declared.pairs.Pair.{Pair}
use Rattle.near_faces.specs.Near.{near_pairs}
use Rattle.near_faces.specs.Searches.{search_checks}
use Rattle.plan.specs.Notices.{notice_line}
use Rattle.plan.specs.declared.endings.Ending.{Ending}
use Rattle.plan.specs.declared.endings.Ending.TheVariants.{Faulty}
use Rattle.pairing.specs.Pairings.{node_room, pair_room, paired}
use Rattle.pairing.specs.inner.Tables.{pairing_in}

module _ {S F E : Type 0} (does : S → Event F → S → Type 0) (fails : S → Call F → E → S → Type 0) (s t : S) (r : Result Ending E) (d : Draft) (ps : List Point) (fs : List Face) where
  pub fault_told : (n : Notice) → Some n ≡ first_fit (search_checks d ps fs node_room pair_room) → Writes does fails (printing (notice_line n)) (Faulty n) s r t
      → (let o = pairing_in d ps fs in Writes does fails (writes_of o) o.answer s r t)
  unfolding pairing_in
  fault_told n fits told = rw (← fits) told

  pub pairs_told : (rows : List Pair) → None ≡ first_fit (search_checks d ps fs node_room pair_room) → rows ≡ near_pairs (sheet_in d ps fs)
      → (let o = paired d.faces rows in Writes does fails (writes_of o) o.answer s r t) → (let o = pairing_in d ps fs in Writes does fails (writes_of o) o.answer s r t)
  unfolding pairing_in
  pairs_told rows fits all told = rw (← fits, ← all) told
