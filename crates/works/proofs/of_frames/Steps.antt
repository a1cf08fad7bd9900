-- An inspection over rows, one text after another.
use Rattle.std.proofs.Common.{◌≡◌, ℕ, List, ◌++◌, length, map, take, codes, Some, None, Option, Ok, Err, Result, ap, ◌∙◌, subst}
use Rattle.hosts.specs.Events.{Event, Call}
use Rattle.hosts.specs.Writing.{Written, printing, WritesSo, Writes, Prints}
use Rattle.hosts.proofs.Writing.{written_then, written_short, written_as}
use Rattle.sheet.specs.Checks.{first_fit}
use Rattle.sheet.specs.declared.drafts.Draft.{Draft}
use Rattle.sheet.specs.declared.notices.Notice.{Notice}
use Rattle.sheet.specs.declared.rows.Point.{Point}
use Rattle.sheet.specs.declared.rows.Face.{Face}
use Rattle.inspection.specs.Sheets.{sheet_in}
use Rattle.inspection.specs.declared.offerings.Offering.{Offering}
use Rattle.near_faces.specs.declared.pairs.Pair.{Pair}
use Rattle.near_faces.specs.Near.{near_pairs}
use Rattle.near_faces.specs.Searches.{search_checks}
use Rattle.frames.specs.Outcomes.{with_line_feed, line_of_step}
use Rattle.pairing.specs.Pairings.{node_room, pair_room, pairs_line}
use Rattle.plan.specs.Notices.{notice_line}
use Rattle.near_faces.specs.Near.{offering_of}
use Rattle.works.specs.inspect.Rows.{walk_over, rows_written, RowsEnd, InspectsRows}
use Rattle.works.specs.two_frames.Accounts.{ending_by}
use Rattle.works.specs.two_frames.Lines.{last_line}
use Rattle.works.specs.two_frames.Works.{PairsEnd, pairs_account, search_account, SearchEnds, search_fault_in, InspectsNearPairs, InspectsStep}
use Rattle.works.specs.declared.two_frames.endings.FramesEnding.{FramesEnding}
use Rattle.works.specs.declared.two_frames.endings.FramesEnding.TheVariants.{Unsearched}

module _ {S F E : Type 0} (does : S → Event F → S → Type 0) (fails : S → Call F → E → S → Type 0) (d : Draft) (ps : List Point) (fs : List Face) where
  -- ---- the pairs
  module _ (pairs : List Pair) (s t : S) where
    abbrev os : List Offering
    os = map offering_of pairs

    abbrev line : List Written
    line = printing (pairs_line d.faces (length pairs))

    abbrev rows : List Written
    rows = rows_written d (sheet_in d ps fs) os

    abbrev last : ℕ → List Written
    last n = printing (last_line n ++ codes "\n")

    abbrev count : ℕ
    count = length (walk_over d (sheet_in d ps fs) os).refused

    pub pairs_untold : (e : E) (r : Result FramesEnding E) → Prints {X = Unit {0}} does fails (pairs_line d.faces (length pairs)) s (Err e) t → r ≡ Err e → InspectsNearPairs d ps fs does fails pairs s r t
    unfolding InspectsNearPairs
    pairs_untold e r print is = written_short does fails (PairsEnd d ps fs pairs) s t line (rows ++ last count) e r print is

    module _ (print : Prints {X = Unit {0}} does fails (pairs_line d.faces (length pairs)) s (Ok tt) t) (u : S) where
      pub rows_cut : (e : E) (r : Result FramesEnding E) → InspectsRows does fails d ps fs (map offering_of pairs) t (Err e) u → r ≡ Err e → InspectsNearPairs d ps fs does fails pairs s r u
      unfolding InspectsNearPairs InspectsRows
      rows_cut e r inspects is =
          written_then does fails (λ (x : Unit {0}). Unit {0}) (PairsEnd d ps fs pairs) s t u line (rows ++ last count) tt r print
          (written_short does fails (PairsEnd d ps fs pairs) t u rows (last count) e r inspects is)

      pub last_told : (v : S) (n : ℕ) (text : List ℕ) (answer : FramesEnding) (r : Result FramesEnding E) → InspectsRows does fails d ps fs (map offering_of pairs) t (Ok n) u → text ≡ last_line n ++ codes "\n" → answer ≡ ending_by n
          → Writes does fails (printing text) answer u r v → InspectsNearPairs d ps fs does fails pairs s r v
      unfolding InspectsNearPairs InspectsRows
      last_told v n text answer r inspects said ends told =
          let found = inspects.good.answer in
          written_then does fails (λ (x : Unit {0}). Unit {0}) (PairsEnd d ps fs pairs) s t v line (rows ++ last count) tt r print
          (written_then does fails (RowsEnd d (sheet_in d ps fs) os) (PairsEnd d ps fs pairs) t u v rows (last count) n r inspects
          (subst (λ l. WritesSo does fails (printing l) (PairsEnd d ps fs pairs) u r v) (said ∙ ap (λ n. last_line n ++ codes "\n") found.refused)
          (written_as does fails (λ x. x ≡ answer) (PairsEnd d ps fs pairs) (λ x is. record { ending = is ∙ ends ∙ ap ending_by found.refused; claim = found.claim }) u v (printing text) r told)))

  -- ---- the step
  module _ (s t : S) where
    abbrev first : List Written
    first = printing (with_line_feed (line_of_step (take d.points ps)))

    abbrev rest : Option Notice → List Written
    rest x = (search_account d ps fs x).all

    pub step_untold : (e : E) (r : Result FramesEnding E) → Prints {X = Unit {0}} does fails (with_line_feed (line_of_step (take d.points ps))) s (Err e) t → r ≡ Err e → InspectsStep d ps fs does fails s r t
    unfolding InspectsStep
    step_untold e r print is = written_short does fails (SearchEnds d ps fs (search_fault_in d ps fs)) s t first (rest (search_fault_in d ps fs)) e r print is

    module _ (print : Prints {X = Unit {0}} does fails (with_line_feed (line_of_step (take d.points ps))) s (Ok tt) t) (u : S) (r : Result FramesEnding E) where
      so : (x : Option Notice) → x ≡ search_fault_in d ps fs → WritesSo does fails (rest x) (SearchEnds d ps fs x) t r u → InspectsStep d ps fs does fails s r u
      unfolding InspectsStep
      so x is after =
          subst (λ x. WritesSo does fails (first ++ rest x) (SearchEnds d ps fs x) s r u) is
          (written_then does fails (λ (x : Unit {0}). Unit {0}) (SearchEnds d ps fs x) s t u first (rest x) tt r print after)

      pub search_told : (n : Notice) → Some n ≡ first_fit (search_checks d ps fs node_room pair_room) → Writes does fails (printing (notice_line n)) (Unsearched n) t r u → InspectsStep d ps fs does fails s r u
      search_told n is told = so (Some n) is told

      pub pairs_inspected : (pairs : List Pair) → None ≡ first_fit (search_checks d ps fs node_room pair_room) → pairs ≡ near_pairs (sheet_in d ps fs) → InspectsNearPairs d ps fs does fails pairs t r u → InspectsStep d ps fs does fails s r u
      unfolding InspectsNearPairs
      pairs_inspected pairs is all inspects =
          so None is (subst (λ (pairs : List Pair). WritesSo does fails (pairs_account d ps fs pairs).all (PairsEnd d ps fs pairs) t r u) all inspects)
