use Rattle.std.proofs.Common.{◌≡◌, ◌+◌, ◌-◌, ◌*◌, ◌≤◌, List, ◌++◌, length, min, take, sym, ap, ap₂, ◌∙◌, subst, arith, rules, length-append, append-nil}
use Rattle.std.proofs.lemmas.List.{take_rest}
use Rattle.near_faces.specs.Trees.{IsTree}
use Rattle.near_faces.specs.declared.pairs.Pair.{Pair}
use Rattle.near_faces.specs.declared.nodes.Node.{Node}
use Rattle.near_faces.specs.Boxes.{meets}
use Rattle.near_faces.specs.Near.{near_to}
use Rattle.near_faces.specs.inner.Listing.{put}
use Rattle.near_faces.specs.inner.Sides.{boxes_in}
use Rattle.near_faces.proofs.Halving.{places, some_boxes, root}
use Rattle.near_faces.proofs.Listing.{none_later, none_met, length-put, put_halves, nothing_after}
use Rattle.near_faces.proofs.Rows.{length-boxes_in, later_rows, near_halves, few_near, two_trees}
use Rattle.near_faces.proofs.pairs.+list_one.Goals as goal

pub returns-then-end-from-clause-count : goal.returns-then-end-from-clause-count
returns-then-end-from-clause-count t c =
    let a = c.args in
    let many = length-boxes_in a.sides.now a.first a.count in
    let e = none_later a.face a.swept a.first (boxes_in a.sides.now a.first a.count) (omega (arith, many, c.first_later-from.ensures, some_boxes c.requires.tree)) in
    sym (ap length e)

pub returns-then-end-from-clause-pairs : goal.returns-then-end-from-clause-pairs
returns-then-end-from-clause-pairs t c =
    let a = c.args in
    let many = length-boxes_in a.sides.now a.first a.count in
    let e = none_later a.face a.swept a.first (boxes_in a.sides.now a.first a.count) (omega (arith, many, c.first_later-from.ensures, some_boxes c.requires.tree)) in
    sym (ap (λ (ps : List Pair). put ps a.pairs.now) e)

pub returns-then-not-meets-clause-count : goal.returns-then-not-meets-clause-count
returns-then-not-meets-clause-count t c =
    let a = c.args in
    let e = none_met a.face a.swept a.first (boxes_in a.sides.now a.first a.count) (sym (c.if-not-meets.ensures ∙ ap (λ (n : Node). meets a.swept n.bounds) (root c.requires.tree _))) in
    sym (ap length e)

pub returns-then-not-meets-clause-pairs : goal.returns-then-not-meets-clause-pairs
returns-then-not-meets-clause-pairs t c =
    let a = c.args in
    let e = none_met a.face a.swept a.first (boxes_in a.sides.now a.first a.count) (sym (c.if-not-meets.ensures ∙ ap (λ (n : Node). meets a.swept n.bounds) (root c.requires.tree _))) in
    sym (ap (λ (ps : List Pair). put ps a.pairs.now) e)

pub returns-then-count-le-RUN-clause-count : goal.returns-then-count-le-RUN-clause-count
returns-then-count-le-RUN-clause-count t c =
    let a = c.args in
    let from = c.first_later-from.result in
    let n = a.first + a.count - from in
    c.list_run.ensures.count ∙ sym (ap length (later_rows a.sides.now a.face a.swept a.first a.count from n c.first_later-from.ensures (omega arith) (omega arith)))

pub returns-then-count-le-RUN-clause-pairs : goal.returns-then-count-le-RUN-clause-pairs
returns-then-count-le-RUN-clause-pairs t c =
    let a = c.args in
    let from = c.first_later-from.result in
    let n = a.first + a.count - from in
    c.list_run.ensures.pairs
    ∙ sym (ap (λ (ps : List Pair). put ps a.pairs.now) (later_rows a.sides.now a.face a.swept a.first a.count from n c.first_later-from.ensures (omega arith) (omega arith)))

-- the tree has two places less one for each face, and both halves of the run have trees in it
pub slice_bounds-list_one-end : goal.slice_bounds-list_one-end
slice_bounds-list_one-end t c =
    let p : length c.args.tree.now + 1 ≡ 2 * c.args.count = places c.requires.tree ∙ ap (λ n. 2 * n) (length-boxes_in c.args.sides.now c.args.first c.args.count) in
    search rules

pub list_one-lower-requires : goal.list_one-lower-requires
list_one-lower-requires t c =
    let a = c.args in
    let h = two_trees a.sides.now a.first a.count c.lower_half-half.result a.tree.now c.requires.tree (omega arith) (omega arith) in
    (search rules, (search rules, h.lower))

pub list_one-upper-requires : goal.list_one-upper-requires
list_one-upper-requires t c =
    let a = c.args in
    let half = c.lower_half-half.result in
    let h = two_trees a.sides.now a.first a.count half a.tree.now c.requires.tree (omega arith) (omega arith) in (
      search rules,
      (
        search rules,
        subst (IsTree (a.first + half) (boxes_in a.sides.now (a.first + half) (a.count - half))) (sym (take_rest a.tree.now (2 * half))) h.upper,
      ),
    )

pub overflow_add-result : goal.overflow_add-result
overflow_add-result t c =
    let a = c.args in
    let h = c.lower_half-half.result in
    let few : c.list_one-lower.result + c.list_one-upper.result ≤ 8192 = omega (
      arith,
      c.list_one-lower.ensures.count,
      c.list_one-upper.ensures.count,
      few_near a.sides.now a.face a.swept a.first h,
      few_near a.sides.now a.face a.swept (a.first + h) (a.count - h),
    ) in
    search rules

pub returns-clause-count : goal.returns-clause-count
returns-clause-count t c =
    let a = c.args in
    let h = c.lower_half-half.result in
    let lower = near_to a.face a.swept a.first (boxes_in a.sides.now a.first h) in
    let upper = near_to a.face a.swept (a.first + h) (boxes_in a.sides.now (a.first + h) (a.count - h)) in
    ap₂ ◌+◌ c.list_one-lower.ensures.count c.list_one-upper.ensures.count ∙ sym (length-append lower upper)
    ∙ sym (ap length (near_halves a.sides.now a.face a.swept a.first a.count h (omega arith)))

pub returns-clause-pairs : goal.returns-clause-pairs
returns-clause-pairs t c =
    let a = c.args in
    let h = c.lower_half-half.result in
    let lower = near_to a.face a.swept a.first (boxes_in a.sides.now a.first h) in
    let upper = near_to a.face a.swept (a.first + h) (boxes_in a.sides.now (a.first + h) (a.count - h)) in
    let first = c.list_one-lower.new.pairs in
    let second = c.list_one-upper.new.pairs in
    let n = c.min-room.result in
    let room : n ≡ min (length a.pairs.now) (length lower) =
    c.min-room.ensures ∙ ap₂ min (ap length c.list_one-lower.ensures.pairs ∙ length-put lower a.pairs.now) c.list_one-lower.ensures.count in
    ap (λ (ps : List Pair). take n first ++ ps) (ap (λ (ps : List Pair). second ++ ps) (nothing_after n first) ∙ append-nil second)
    ∙ put_halves lower upper a.pairs.now first second n room c.list_one-lower.ensures.pairs (c.list_one-upper.ensures.pairs ∙ ap (put upper) (take_rest first n))
    ∙ ap (λ (ps : List Pair). put ps a.pairs.now) (sym (near_halves a.sides.now a.face a.swept a.first a.count h (omega arith)))
