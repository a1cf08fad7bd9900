use Rattle.std.proofs.Common.{◌+◌, ◌-◌, ◌*◌, List, arith, refl, subst}
use Rattle.std.proofs.lemmas.List.{take_rest}
use Rattle.near_faces.specs.declared.boxes.SweptBox.{SweptBox}
use Rattle.near_faces.specs.Trees.{IsTree}
use Rattle.near_faces.proofs.Halving.{one_tree, built}
use Rattle.near_faces.proofs.nodes.+build.Goals as goal

pub returns-then-n-eq1 : goal.returns-then-n-eq1
returns-then-n-eq1 t c =
    let a = c.args in
    one_tree a.first a.run.now a.nodes.now _ (omega arith) (omega arith)

pub returns : goal.returns
returns t c =
    let a = c.args in
    let h = c.lower_half-half.result in
    built a.first h (2 * h) (2 * h - 1) _ a.run.now a.nodes.now c.build.new.nodes c.build-2.new.nodes c.join-bounds.result _ _ (omega arith) (omega arith) (omega arith) refl refl refl
    c.build.ensures
    (subst (λ (xs : List SweptBox). IsTree (a.first + h) xs c.build-2.new.nodes) (take_rest a.run.now h) c.build-2.ensures)
    c.join-bounds.ensures
