use Rattle.std.proofs.Common.{ap₂, ◌∙◌, rules, arith}
use Rattle.std.proofs.lemmas.Grind.{common_steps}
use Rattle.near_faces.specs.Boxes.{joined}
use Rattle.near_faces.proofs.Sweeping.{face_box}
use Rattle.near_faces.proofs.boxes.SweptBox.of_face.Goals as goal

pub returns : goal.returns
returns c =
    let box = face_box c.args.points.now c.args.face c.in_ok-get.field-0.now c.in_ok-get-2.field-0.now c.in_ok-get-3.field-0.now (search rules) (search rules) (search rules) in
    let same = c.join-2.ensures ∙ ap₂ joined c.of_point-a.ensures (c.join.ensures ∙ ap₂ joined c.of_point-b.ensures c.of_point-c.ensures) ∙ box in
    grind (arith, common_steps)
