use Rattle.std.proofs.Common.{◌≡◌, ◌+◌, min, List, ◌++◌, length, take, sym, ap, ap₂, ◌∙◌, arith, length-append, append-nil}
use Rattle.std.proofs.lemmas.List.{take_rest}
use Rattle.near_faces.specs.declared.pairs.Pair.{Pair}
use Rattle.near_faces.specs.declared.boxes.SweptBox.{SweptBox}
use Rattle.near_faces.specs.Near.{near_to, near_from}
use Rattle.near_faces.specs.inner.Listing.{put}
use Rattle.near_faces.specs.inner.Sides.{boxes_in}
use Rattle.near_faces.proofs.Listing.{length-put, put_halves, nothing_after}
use Rattle.near_faces.proofs.Rows.{next_near, few_near}
use Rattle.near_faces.proofs.pairs.list_all.Goals as goal

pub loop-i-preserved : goal.loop-i-preserved
loop-i-preserved c =
    let s = c.args.sides.now in
    let n = c.args.faces in
    let all = boxes_in s 0 n in
    let i = c.loop-i.i in
    let inv = c.loop-i.invariant in
    let one = c.list_one-count.ensures in
    let xs = near_from all 0 (take i all) in
    let ys = near_to i c.swept.result 0 all in
    let next = next_near s n i c.loop-i-test.true ∙ ap (λ (b : SweptBox). xs ++ near_to i b 0 all) (sym c.swept.ensures) in
    let first = c.loop-i.pairs in
    let second = c.list_one-count.new.pairs in
    let m = c.min-room.result in
    let room : m ≡ min (length c.args.pairs.now) (length xs) = c.min-room.ensures ∙ ap₂ min (ap length inv.pairs ∙ length-put xs c.args.pairs.now) inv.count in
    record {
      count = ap₂ ◌+◌ inv.count one.count ∙ sym (length-append xs ys) ∙ sym (ap length next);
      few = omega (arith, inv.few, one.count, few_near s i c.swept.result 0 n);
      pairs = ap (λ (ps : List Pair). take m first ++ ps) (ap (λ (ps : List Pair). second ++ ps) (nothing_after m first) ∙ append-nil second)
          ∙ put_halves xs ys c.args.pairs.now first second m room inv.pairs (one.pairs ∙ ap (put ys) (take_rest first m))
          ∙ ap (λ (ps : List Pair). put ps c.args.pairs.now) (sym next);
    }
