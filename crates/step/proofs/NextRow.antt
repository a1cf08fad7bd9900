-- One row more of a table that is gone through: the checks of its record, and its ends.
use Rattle.std.proofs.Common.{◌≡◌, ℕ, ◌+◌, ◌<◌, List, ◌++◌, length, get_or, take, drop, set, Some, None, refl, ◌∙◌, arith}
use Rattle.std.specs.Option.{option_or}
use Rattle.std.proofs.lemmas.List.{at_drop_more, take_more_set, drop-set-lt, append_assoc}
use Rattle.sheet.specs.Checks.{first_fit}
use Rattle.sheet.specs.declared.notices.Notice.{Notice}
use Rattle.sheet.specs.declared.rows.Point.{Point}
use Rattle.step.specs.Laying.{row_checks, after_row, with_end, rows_checks, with_ends}
use Rattle.sheet.proofs.FirstFit.{first_fit_append}

checks_first : (ps : List Point) (i : ℕ) (d : Point) (bs : List ℕ) → i < length ps → first_fit (rows_checks i (drop i ps) bs) ≡ option_or (first_fit (row_checks i (get_or ps i d) bs)) (first_fit (rows_checks (i + 1) (drop (i + 1) ps) (after_row bs)))
checks_first ps i d bs h =
    at_drop_more (λ t. first_fit (rows_checks i t bs)) ps i d h
    ∙ first_fit_append (row_checks i (get_or ps i d) bs) (rows_checks (i + 1) (drop (i + 1) ps) (after_row bs))

-- row i has no fault
pub checks_more : (ps : List Point) (i : ℕ) (d : Point) (bs r : List ℕ) → i < length ps → None ≡ first_fit (row_checks i (get_or ps i d) bs) → r ≡ after_row bs → first_fit (rows_checks (i + 1) (drop (i + 1) ps) r) ≡ first_fit (rows_checks i (drop i ps) bs)
checks_more ps i d bs r h good rest = rw (rest, checks_first ps i d bs h, ← good) refl

-- row i has a fault
pub checks_stop : (ps : List Point) (i : ℕ) (d : Point) (bs : List ℕ) (n : Notice) → i < length ps → Some n ≡ first_fit (row_checks i (get_or ps i d) bs) → Some n ≡ first_fit (rows_checks i (drop i ps) bs)
checks_stop ps i d bs n h bad = rw (checks_first ps i d bs h, ← bad) refl

-- ---- row i gets its end
-- whatever it becomes, the rows behind it are as they were
pub checks_more_set : (ps : List Point) (i : ℕ) (q : Point) (bs : List ℕ) (d : Point) → i < length ps → None ≡ first_fit (row_checks i (get_or ps i d) bs) → first_fit (rows_checks i (drop i ps) bs) ≡ first_fit (rows_checks (i + 1) (drop (i + 1) (set ps i q)) (after_row bs))
checks_more_set ps i q bs d h good = rw (drop-set-lt (i + 1) ps i q (omega arith), checks_first ps i d bs h, ← good) refl

pub ends_more : (ps : List Point) (i : ℕ) (bs : List ℕ) (d : Point) → i < length ps → take i ps ++ with_ends (drop i ps) bs ≡ take (i + 1) (set ps i (with_end (get_or ps i d) bs)) ++ with_ends (drop (i + 1) (set ps i (with_end (get_or ps i d) bs))) (after_row bs)
ends_more ps i bs d h =
    let q : Point = with_end (get_or ps i d) bs in
    rw (take_more_set ps i q h, append_assoc, drop-set-lt (i + 1) ps i q (omega arith), at_drop_more (λ t. with_ends t bs) ps i d h) refl
