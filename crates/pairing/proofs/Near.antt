-- The search over tables that hold a plan, and what the stored pairs are for.
use Rattle.std.proofs.Common.{nat_lt, Some, lit≤, ◌∷◌, ◌++◌, ◌≡◌, Bool, false, List, length, take, None, Option, IfSome, IsFalse, ◌||◌, refl, sym, ap, ◌∙◌, arith, subst}
use Rattle.std.proofs.Math.Seq.{take-length}
use Rattle.std.proofs.lemmas.Bool.{le-ltb}
use Rattle.std.proofs.lemmas.List.{length-map}
use Rattle.sheet.proofs.FirstFit.{no_fit}
use Rattle.sheet.proofs.Sound.{sound}
use Rattle.sheet.specs.Lines.{numbered_lines}
use Rattle.sheet.specs.Sheet.{point_limit, face_limit, text_limit, no_rows, room_in, lines_checks}
use Rattle.sheet.specs.Checks.{first_fit, check}
use Rattle.sheet.specs.IsSheet.{IsSheet}
use Rattle.sheet.specs.declared.drafts.Draft.{Draft}
use Rattle.sheet.specs.declared.notices.Layer.TheVariants.{Search, Sheet as SheetLayer}
use Rattle.sheet.specs.declared.notices.Notice.{Notice}
use Rattle.sheet.specs.declared.rows.Point.{Point}
use Rattle.sheet.specs.declared.rows.Face.{Face}
use Rattle.step.proofs.LayAnswers.{length_with_ends}
use Rattle.inspection.specs.Offers.{lacks_rows}
use Rattle.inspection.specs.Sheets.{Sheet, sheet_of, sheet_in}
use Rattle.near_faces.specs.Boxes.{swept_box, swept_boxes}
use Rattle.near_faces.specs.Covering.{CoversSheet}
use Rattle.near_faces.specs.Near.{near_pairs}
use Rattle.near_faces.specs.Searches.{search_checks, outside_checks, table_checks}
use Rattle.near_faces.proofs.Completing.{complete}
use Rattle.near_faces.proofs.Covering.{covering}
use Rattle.plan.specs.Plans.{Plan, draft, resting_points, moving_points, faces, sheet, fault, sheet_fault, step_fault, or_else}
use Rattle.plan.specs.Reading.{HoldsPlan}
use Rattle.hosts.specs.Writing.{or_tells}
use Rattle.pairing.specs.Pairings.{node_room, pair_room, search_fault, told_fault, paired, pairing}
use Rattle.pairing.specs.inner.Tables.{pairing_in}
use Rattle.pairing.specs.Works.{Serves}
use Rattle.pairing.proofs.PairBytes.{read_back}

module _ (p : Plan) where
  -- the plan's own rows are a table of just the sheet
  count : length (moving_points p) ≡ (draft p).points
  count = length_with_ends (resting_points p) p.step

  pub own_sheet : sheet_in (draft p) (moving_points p) (faces p) ≡ sheet p
  own_sheet = λ i. sheet_of ((ap (λ n. take n (moving_points p)) (sym count) ∙ take-length (moving_points p)) i) (take-length (faces p) i)

  own_rows : lacks_rows (draft p) (moving_points p) (faces p) ≡ false
  own_rows =
      let a = le-ltb (length (moving_points p)) (draft p).points (omega (arith, count)) in
      let b = le-ltb (length (faces p)) (draft p).faces (omega arith) in
      λ i. a i || b i

  -- the fault of a search over a sheet's tables
  searched : Bool → Sheet → Option Notice
  searched lacks s = first_fit (check lacks 16 Search 0 0 ∷ (outside_checks s ++ table_checks (swept_boxes s) node_room pair_room))

  pub same_pairing : (d : Draft) (ps : List Point) (fs : List Face) → HoldsPlan p d ps fs → IsFalse (lacks_rows d ps fs) → pairing_in d ps fs ≡ pairing p.sheet p.step
  unfolding pairing_in searched
  same_pairing d ps fs h rows =
      let found : first_fit (search_checks d ps fs node_room pair_room) ≡ search_fault p =
      (λ i. searched (rows i) (h.sheet i)) ∙ sym (λ i. searched (own_rows i) (own_sheet i)) in
      (λ i. or_tells (found i) told_fault (paired (h.draft i).faces (near_pairs (h.sheet i))))
      ∙ sym (ap (λ o. or_tells o told_fault (or_tells (search_fault p) told_fault (paired (draft p).faces (near_pairs (sheet p))))) h.no_fault)

  -- ---- what is stored
  pub covered : CoversSheet (draft p) (sheet p) (near_pairs (sheet p))
  covered = subst (λ s. CoversSheet (draft p) s (near_pairs s)) own_sheet (covering (draft p) (moving_points p) (faces p))

  pub is_sheet : sheet_fault p ≡ None → IsSheet (resting_points p) (faces p)
  is_sheet good =
      let long = check (nat_lt text_limit (length p.sheet)) 6 SheetLayer 0 0 in
      let room = room_in point_limit face_limit in
      let lines = lines_checks room no_rows (numbered_lines p.sheet) in
      sound room (numbered_lines p.sheet) (resting_points p) (faces p) (lit≤ tt) (lit≤ tt) (sym (no_fit long lines good).1) refl refl

  pub sheet_first : (a b : Option Notice) → or_else a b ≡ None → a ≡ None
  sheet_first None b h = refl
  sheet_first (Some n) b h = h

  by_cases : (a b : Option Notice) → fault p ≡ a → IfSome (or_tells a told_fault (or_tells b told_fault (paired (draft p).faces (near_pairs (sheet p))))).stored (Serves p)
  by_cases None None is =
      let boxes = swept_boxes (sheet p) in
      let near = complete boxes in
      let few = (is_sheet (sheet_first (sheet_fault p) (step_fault p) is)).face_count in
      record {
        pairs = near_pairs (sheet p);
        read = read_back boxes (omega (arith, few, length-map (faces p) (swept_box (sheet p)))) (near_pairs (sheet p)) near.only;
        near = near;
        covers = covered;
      }
  by_cases a b is = tt

  pub serves : IfSome (pairing p.sheet p.step).stored (Serves p)
  serves = by_cases (fault p) (search_fault p) refl
