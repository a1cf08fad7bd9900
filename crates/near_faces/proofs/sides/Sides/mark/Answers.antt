use Rattle.std.proofs.Common.{◌+◌, ◌<◌, Bool, List, [], length, set, take, length-take-le, refl, sym, ap, ap₂, ◌∙◌, arith}
use Rattle.std.proofs.lemmas.List.{take_all}
use Rattle.std.proofs.lemmas.List.Sums.{count_by-le-length}
use Rattle.std.specs.List.{count_by}
use Rattle.near_faces.specs.Boxes.{box_around, meets}
use Rattle.near_faces.specs.inner.Sides.{boxes_in}
use Rattle.near_faces.proofs.Sweeping.{one_more}
use Rattle.near_faces.proofs.Rows.{length-boxes_in, get_or-boxes_in}
use Rattle.near_faces.proofs.Marking.{count_more, whole_table}
use Rattle.near_faces.proofs.sides.Sides.mark.Goals as goal

pub loop-k-preserved : goal.loop-k-preserved
loop-k-preserved c =
    let s = c.args.self.now in
    let n = length c.args.marks.now in
    let run = boxes_in s c.args.first n in
    let k = c.loop-k.k in
    let many = length-boxes_in s c.args.first n in
    let inside : k < length run = omega (arith, many) in
    let none = box_around [] in
    let here = c.meets-meets.ensures ∙ ap (meets c.args.swept) (sym (get_or-boxes_in s c.args.first n k (c.args.first + k) none c.loop-k-test.true refl)) in
    let inv = c.loop-k.invariant in
    let count = ap₂ ◌+◌ inv.count c.from-count.ensures ∙ count_more (meets c.args.swept) run k none c.meets-meets.result inside here in
    record {
      marks = ap₂ (λ (ms : List Bool) (t : Bool). set ms k t) inv.marks here ∙ one_more (meets c.args.swept) run c.args.marks.now k none inside (sym many);
      count = count;
      few = omega (arith, count, count_by-le-length (meets c.args.swept) (take (k + 1) run), length-take-le (k + 1) run (omega arith));
    }

pub returns-clause-marks : goal.returns-clause-marks
returns-clause-marks c =
    let run = boxes_in c.args.self.now c.args.first (length c.args.marks.now) in
    let many = length-boxes_in c.args.self.now c.args.first (length c.args.marks.now) in
    c.loop-k.invariant.marks ∙ whole_table (meets c.args.swept) run c.args.marks.now c.loop-k.k (omega (arith, many)) c.loop-k-test.false

pub returns-clause-count : goal.returns-clause-count
returns-clause-count c =
    let run = boxes_in c.args.self.now c.args.first (length c.args.marks.now) in
    let many = length-boxes_in c.args.self.now c.args.first (length c.args.marks.now) in
    c.from.ensures ∙ c.loop-k.invariant.count ∙ ap (count_by (meets c.args.swept)) (take_all c.loop-k.k run (omega (arith, many)))
