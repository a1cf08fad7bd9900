use Rattle.std.proofs.Common.{arith, ◌≡◌, List, Bool, map, sym, ap, ◌∙◌, rules}
use Rattle.std.specs.List.{count_by}
use Rattle.near_faces.specs.Boxes.{meets}
use Rattle.near_faces.specs.declared.pairs.Pair.{Pair}
use Rattle.near_faces.specs.inner.Listing.{marked, put}
use Rattle.near_faces.specs.Near.{near_to}
use Rattle.near_faces.specs.inner.Sides.{boxes_in}
use Rattle.near_faces.proofs.Marking.{marked_near, count_near, put_none}
use Rattle.near_faces.proofs.pairs.list_run.Goals as goal

pub returns-clause-count : goal.returns-clause-count
returns-clause-count c =
    let a = c.args in
    let run = boxes_in a.sides.now a.first a.count in
    let e : c.mark-met.result ≡ count_by (meets a.swept) run = search rules in
    e ∙ sym (count_near a.face a.swept a.first run c.requires.later)

pub returns-clause-pairs : goal.returns-clause-pairs
returns-clause-pairs c =
    let a = c.args in
    let run = boxes_in a.sides.now a.first a.count in
    let e : c.mark-met.new.marks ≡ map (meets a.swept) run = search rules in
    c.put_marked.ensures ∙ ap (λ (ms : List Bool). put (marked a.face a.first ms) a.pairs.now) e
    ∙ ap (λ (ps : List Pair). put ps a.pairs.now) (marked_near a.face a.swept a.first run c.requires.later)

pub returns-then-met-eq0-clause-count : goal.returns-then-met-eq0-clause-count
returns-then-met-eq0-clause-count c =
    let a = c.args in
    let run = boxes_in a.sides.now a.first a.count in
    let e : c.mark-met.result ≡ count_by (meets a.swept) run = search rules in
    omega (arith, e, count_near a.face a.swept a.first run c.requires.later)

pub returns-then-met-eq0-clause-pairs : goal.returns-then-met-eq0-clause-pairs
returns-then-met-eq0-clause-pairs c =
    let a = c.args in
    let run = boxes_in a.sides.now a.first a.count in
    let e : c.mark-met.result ≡ count_by (meets a.swept) run = search rules in
    put_none (near_to a.face a.swept a.first run) a.pairs.now (omega (arith, e, count_near a.face a.swept a.first run c.requires.later))
