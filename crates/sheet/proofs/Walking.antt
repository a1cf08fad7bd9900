-- One line more: the checks, the counts and the rows of the lines that are left.
use Rattle.std.proofs.Common.{◌≡◌, ℕ, ◌+◌, ◌<◌, ◌≤◌, true, List, [], ◌∷◌, ◌++◌, length, take, drop, set, Some, None, sym, refl, ◌∙◌, arith}
use Rattle.std.proofs.lemmas.List.{take_more_set, drop-set-lt, append_assoc}
use Rattle.std.proofs.lemmas.Bool.{ltb-true}
use Rattle.sheet.specs.Checks.{first_fit}
use Rattle.sheet.specs.inner.Passes.{counts_after, with_point, with_face}
use Rattle.sheet.specs.Sheet.{element_of, counting, has_room, point_row, face_row, points_below, faces_below, line_checks, lines_checks}
use Rattle.sheet.specs.declared.counts.RowCounts.{RowCounts}
use Rattle.sheet.specs.declared.lines.Element.{Element}
use Rattle.sheet.specs.declared.lines.Element.TheVariants as element
use Rattle.sheet.specs.declared.notices.Notice.{Notice}
use Rattle.sheet.specs.declared.rows.Point.{Point}
use Rattle.sheet.specs.declared.rows.Face.{Face}
use Rattle.sheet.proofs.FirstFit.{past, stop}

pub checks_more : (room above next : RowCounts) (s : Element) (l : ℕ × List ℕ) (ls ms : List (ℕ × List ℕ)) → ms ≡ l ∷ ls → next ≡ counting above s → s ≡ element_of above.points l.1 → None ≡ first_fit (line_checks room above l) → first_fit (lines_checks room next ls) ≡ first_fit (lines_checks room above ms)
checks_more room above next s l ls ms p q r e = rw (q, r, p) (past (line_checks room above l) _ e)

pub checks_stop : (room above : RowCounts) (l : ℕ × List ℕ) (ls ms : List (ℕ × List ℕ)) (d : Notice) → ms ≡ l ∷ ls → Some d ≡ first_fit (line_checks room above l) → Some d ≡ first_fit (lines_checks room above ms)
checks_stop room above l ls ms d p e = rw p (stop (line_checks room above l) _ d e)

pub total_more : (above next : RowCounts) (s : Element) (l : ℕ × List ℕ) (ls ms : List (ℕ × List ℕ)) → ms ≡ l ∷ ls → next ≡ counting above s → s ≡ element_of above.points l.1 → counts_after next ls ≡ counts_after above ms
total_more above next s l ls ms p q r = rw (q, r, p)

-- rows over those of a table from i on
abbrev pub pasted : {X : Type 0} → List X → ℕ → List X → List X
pasted t i rows = take i t ++ (rows ++ drop (i + length rows) t)

pasted_more : {X : Type 0} (t : List X) (i : ℕ) (x : X) (rows : List X) → i < length t → pasted t i (x ∷ rows) ≡ pasted (set t i x) (i + 1) rows
pasted_more t i x rows h =
    let k : i + length (x ∷ rows) ≡ i + 1 + length rows = omega arith in
    rw (take_more_set t i x h, append_assoc, drop-set-lt (i + 1 + length rows) t i x (omega arith), k) refl

by_point : (room above : RowCounts) (e : Element) (t rows : List Point) → has_room room above e ≡ true → room.points ≤ length t → pasted (with_point above e t) (counting above e).points rows ≡ pasted t above.points (point_row e ++ rows)
by_point room above element.Nothing t rows p h = refl
by_point room above (element.Point x) t rows p h = sym (pasted_more t above.points x rows (omega (arith, ltb-true _ _ p)))
by_point room above (element.Face x) t rows p h = refl

by_face : (room above : RowCounts) (e : Element) (t rows : List Face) → has_room room above e ≡ true → room.faces ≤ length t → pasted (with_face above e t) (counting above e).faces rows ≡ pasted t above.faces (face_row e ++ rows)
by_face room above element.Nothing t rows p h = refl
by_face room above (element.Point x) t rows p h = refl
by_face room above (element.Face x) t rows p h = sym (pasted_more t above.faces x rows (omega (arith, ltb-true _ _ p)))

pub points_more : (room above next : RowCounts) (s : Element) (t u : List Point) (l : ℕ × List ℕ) (ls ms : List (ℕ × List ℕ)) → ms ≡ l ∷ ls → next ≡ counting above s → s ≡ element_of above.points l.1 → u ≡ with_point above s t → has_room room above s ≡ true → room.points ≤ length t → pasted u next.points (points_below next ls) ≡ pasted t above.points (points_below above ms)
points_more room above next s t u l ls ms p c e w h k =
    rw (w, c, p, ← e) (by_point room above s t (points_below (counting above s) ls) h k)

pub faces_more : (room above next : RowCounts) (s : Element) (t u : List Face) (l : ℕ × List ℕ) (ls ms : List (ℕ × List ℕ)) → ms ≡ l ∷ ls → next ≡ counting above s → s ≡ element_of above.points l.1 → u ≡ with_face above s t → has_room room above s ≡ true → room.faces ≤ length t → pasted u next.faces (faces_below next ls) ≡ pasted t above.faces (faces_below above ms)
faces_more room above next s t u l ls ms p c e w h k =
    rw (w, c, p, ← e) (by_face room above s t (faces_below (counting above s) ls) h k)

-- the counts are those of the rows
by_kind : (above : RowCounts) (e : Element) (ps : List Point) (fs : List Face) → ((counting above e).points + length ps ≡ above.points + length (point_row e ++ ps)) × ((counting above e).faces + length fs ≡ above.faces + length (face_row e ++ fs))
by_kind above element.Nothing ps fs = (refl, refl)
by_kind above (element.Point p) ps fs = (omega arith, refl)
by_kind above (element.Face f) ps fs = (refl, omega arith)

pub counts_are : (above : RowCounts) (ls : List (ℕ × List ℕ)) → ((counts_after above ls).points ≡ above.points + length (points_below above ls)) × ((counts_after above ls).faces ≡ above.faces + length (faces_below above ls))
counts_are above [] = (omega arith, omega arith)
counts_are above (l ∷ ls) =
    let e = element_of above.points l.1 in
    let next = counting above e in
    let more = counts_are next ls in
    let k = by_kind above e (points_below next ls) (faces_below next ls) in
    (more.0 ∙ k.0, more.1 ∙ k.1)
