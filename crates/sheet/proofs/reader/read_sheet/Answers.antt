use Rattle.std.proofs.Common.{◌≡◌, ℕ, ◌≤◌, List, length, take, drop, None, refl, zero-add, arith}
use Rattle.std.proofs.lemmas.List.{take_at}
use Rattle.sheet.specs.Lines.{numbered_lines}
use Rattle.sheet.specs.Checks.{first_fit}
use Rattle.sheet.specs.inner.Passes.{counts_after}
use Rattle.sheet.specs.Sheet.{no_rows, lines_checks, points_in, faces_in, point_limit, face_limit}
use Rattle.sheet.specs.declared.counts.RowCounts.{RowCounts}
use Rattle.sheet.proofs.Sound.{sound}
use Rattle.sheet.proofs.Walking.{counts_are}
use Rattle.sheet.proofs.reader.read_sheet.Goals as goal

-- lines with no fault in such room add up to what a draft may hold
within_limits : (room c : RowCounts) (ls : List (ℕ × List ℕ)) → room.points ≤ point_limit → room.faces ≤ face_limit → None ≡ first_fit (lines_checks room no_rows ls) → c ≡ counts_after no_rows ls
    → (c.points ≤ point_limit) × (c.faces ≤ face_limit)
within_limits room c ls h k e p =
    let s = sound room ls _ _ h k e refl refl in
    let n = counts_are no_rows ls in rw (p, n.0, n.1, zero-add, zero-add) (s.point_count, s.face_count)

pub new-requires-clause-points : goal.new-requires-clause-points
new-requires-clause-points c =
    let room : RowCounts = record { points = c.min-point_room.result; faces = c.min-face_room.result } in
    (within_limits room _ (numbered_lines c.args.text.now) (omega arith) (omega arith) c.in_ok-counts.ensures.fault c.in_ok-counts.ensures.counts).0

pub new-requires-clause-faces : goal.new-requires-clause-faces
new-requires-clause-faces c =
    let room : RowCounts = record { points = c.min-point_room.result; faces = c.min-face_room.result } in
    (within_limits room _ (numbered_lines c.args.text.now) (omega arith) (omega arith) c.in_ok-counts.ensures.fault c.in_ok-counts.ensures.counts).1

pub returns-clause-draft : goal.returns-clause-draft
returns-clause-draft c =
    let k = counts_are no_rows (numbered_lines c.args.text.now) in
    rw (c.new.ensures, c.in_ok-counts.ensures.counts, k.0, k.1, zero-add, zero-add) refl

pub returns-clause-meaning : goal.returns-clause-meaning
returns-clause-meaning c =
    let ps = points_in (numbered_lines c.args.text.now) in
    let fs = faces_in (numbered_lines c.args.text.now) in
    let draft = returns-clause-draft c in
    let points : take c.new.result.points c.fill.new.points ≡ ps = rw (draft, c.fill.ensures.points) (take_at ps (drop (length ps) c.args.points.now) (length ps) refl) in
    let faces : take c.new.result.faces c.fill.new.faces ≡ fs = rw (draft, c.fill.ensures.faces) (take_at fs (drop (length fs) c.args.faces.now) (length fs) refl) in
    let room : RowCounts = record { points = c.min-point_room.result; faces = c.min-face_room.result } in
    sound room (numbered_lines c.args.text.now) _ _ (omega arith) (omega arith) c.in_ok-counts.ensures.fault points faces
