use Rattle.std.proofs.Common.{SFits, w16, rules}
use Rattle.std.proofs.lemmas.Int.{to_z-of_z}
use Rattle.near_faces.proofs.Rows.{HasRow, row_written}
use Rattle.near_faces.proofs.sides.Sides.write.Goals as goal

pub returns : goal.returns
returns c =
    let b = c.args.swept in
    let least_x : SFits w16 b.least.x = search rules in
    let least_y : SFits w16 b.least.y = search rules in
    let least_z : SFits w16 b.least.z = search rules in
    let greatest_x : SFits w16 b.greatest.x = search rules in
    let greatest_y : SFits w16 b.greatest.y = search rules in
    let greatest_z : SFits w16 b.greatest.z = search rules in
    let has : HasRow c.args.self.now c.args.row = record {
      least_x = search rules;
      least_y = search rules;
      least_z = search rules;
      greatest_x = search rules;
      greatest_y = search rules;
      greatest_z = search rules;
    } in
    simp to_z-of_z (row_written c.args.self.now c.args.row b has)
