-- A whole record: what is written reads back, and only what is written is read.
use Rattle.std.proofs.Common.{◌≡◌, ℕ, ◌+◌, true, false, not, eqb, List, [], ◌∷◌, ◌++◌, length, ◌-ℤ◌, None, sym, refl, ap, ◌∙◌, subst}
use Rattle.sheet.specs.declared.notices.Layer.TheVariants as layer
use Rattle.std.proofs.lemmas.List.{nil_from_length}
use Rattle.std.proofs.lemmas.Bool.{and_parts, eqb-true, not-false}
use Rattle.sheet.specs.Checks.{first_fit, check}
use Rattle.sheet.specs.Counted.{in_range, coordinate_of, counted, within}
use Rattle.sheet.specs.declared.rows.Point.{Point}
use Rattle.sheet.proofs.FirstFit.{no_fit, none_parts}
use Rattle.step.specs.Laying.{row_checks, end_of, after_row, with_end, rows_checks, with_ends}
use Rattle.step.specs.Record.{moves_of, moves_record, point_record, record_of}
use Rattle.step.specs.Steps.{OtherEnds, Step, as_counted}
use Rattle.step.proofs.FieldLaws.{Bytes}
use Rattle.step.proofs.CountedLaws.{coordinate_of_same, coordinate_of_within, counted_within}
use Rattle.step.proofs.RowLaws.{distance, none_append, RowBack, row_back, row_only}

-- the moves of a row whose end is in range
moves_are : (p q : Point) → q.start ≡ p.start → within q.end ≡ true → moves_of q ≡ distance (counted p.start) q.end
moves_are p q e w =
    let x = and_parts (in_range q.end.x) _ w in
    let y = and_parts (in_range q.end.y) (in_range q.end.z) x.1 in
    let hx = coordinate_of_same q.end.x x.0 in
    let hy = coordinate_of_same q.end.y y.0 in
    let hz = coordinate_of_same q.end.z y.1 in
    λ i. record {
      x = hx i -ℤ coordinate_of (e i).x;
      y = hy i -ℤ coordinate_of (e i).y;
      z = hz i -ℤ coordinate_of (e i).z;
    }

-- WHAT IS WRITTEN READS BACK

pub rows_back : (i : ℕ) (ps qs : List Point) → OtherEnds ps qs → (first_fit (rows_checks i ps (record_of qs)) ≡ None) × (with_ends ps (record_of qs) ≡ qs)
rows_back i [] [] e = (refl, refl)
rows_back i [] (q ∷ qs) e = absurd e
rows_back i (p ∷ ps) [] e = absurd e
rows_back i (p ∷ ps) (q ∷ qs) e =
    let m = moves_are p q e.0 e.1 in
    let b : RowBack i p q.end (record_of (q ∷ qs)) (record_of qs)
    = subst (λ v. RowBack i p q.end (moves_record v ++ record_of qs) (record_of qs)) (sym m) (row_back i p q.end (record_of qs) e.1) in
    let more = rows_back (i + 1) ps qs e.2 in (
      none_append (row_checks i p (record_of (q ∷ qs))) (rows_checks (i + 1) ps (after_row (record_of (q ∷ qs)))) b.good (ap (λ r. first_fit (rows_checks (i + 1) ps r)) b.rest ∙ more.0),
      (λ j. record { start = sym e.0 j; end = b.end j } ∷ with_ends ps (b.rest j)) ∙ ap (λ t. q ∷ t) more.1,
    )

-- ONLY WHAT IS WRITTEN IS READ

no_more : (bs : List ℕ) → not (eqb (length bs) 0) ≡ false → [] ≡ bs
no_more bs e = sym (nil_from_length bs (eqb-true (length bs) 0 (not-false _ e)))

pub rows_only : (i : ℕ) (ps : List Point) (bs : List ℕ) → Bytes bs → first_fit (rows_checks i ps bs) ≡ None → Step ps bs (with_ends ps bs)
rows_only i [] bs B g = (tt, no_more bs (no_fit (check (not (eqb (length bs) 0)) 12 layer.Step 0 0) [] g).0)
rows_only i (p ∷ ps) bs B g =
    let q = with_end p bs in
    let both = none_parts (row_checks i p bs) (rows_checks (i + 1) ps (after_row bs)) g in
    let o = row_only i p bs B both.0 in
    let more = rows_only (i + 1) ps (after_row bs) o.rest both.1 in (
      (refl, o.ranges, more.0),
      ap (λ m. moves_record m ++ record_of (with_ends ps (after_row bs))) (moves_are p q refl o.ranges)
          ∙ ap (λ r. moves_record (distance (counted p.start) (end_of p bs)) ++ r) more.1
          ∙ o.bytes,
    )

-- THE RECORD OF ANY TABLE

moves_counted : (p : Point) → moves_of (record { start = p.start; end = counted p.end }) ≡ moves_of p
moves_counted p =
    let hx = coordinate_of_same (coordinate_of p.end.x) (coordinate_of_within p.end.x) in
    let hy = coordinate_of_same (coordinate_of p.end.y) (coordinate_of_within p.end.y) in
    let hz = coordinate_of_same (coordinate_of p.end.z) (coordinate_of_within p.end.z) in
    λ i. record { x = hx i -ℤ coordinate_of p.start.x; y = hy i -ℤ coordinate_of p.start.y; z = hz i -ℤ coordinate_of p.start.z }

pub counted_step : (ps : List Point) → Step ps (record_of ps) (as_counted ps)
counted_step [] = (tt, refl)
counted_step (p ∷ ps) =
    let more = counted_step ps in (
      (refl, counted_within p.end, more.0),
      ap (λ m. moves_record m ++ record_of (as_counted ps)) (moves_counted p) ∙ ap (λ r. point_record p ++ r) more.1,
    )
