use Rattle.std.proofs.Common.{◌+◌, refl, set, None, sym, ap₂, ◌∙◌, arith}
use Rattle.inspection.specs.Sheets.{sheet_of, face_at, no_face}
use Rattle.near_faces.specs.Boxes.{swept_box}
use Rattle.near_faces.proofs.Sweeping.{one_more, lowest_is, none_is, inside_of, below_more, told, InsideBelow}
use Rattle.near_faces.proofs.finding.sweep.Goals as goal

pub loop-i-init : goal.loop-i-init
loop-i-init c =
    let s = sheet_of c.args.points.now c.args.faces.now in
    let inside : InsideBelow s 0 = λ k h. absurd (omega arith) in
    record { inside = inside; here = λ h e. lowest_is s 0 h inside e; boxes = refl }

pub loop-i-preserved : goal.loop-i-preserved
loop-i-preserved c =
    let s = sheet_of c.args.points.now c.args.faces.now in
    let i = c.loop-i.i in
    let here = inside_of s (face_at s i) c.in-Some.swept (sym c.of_face.ensures ∙ c.in-Some.is) in
    let inside = below_more s i c.loop-i.invariant.inside here.0 in
    record {
      inside = inside;
      here = λ h e. lowest_is s (i + 1) h inside e;
      boxes = ap₂ (λ bs b. set bs i b) c.loop-i.invariant.boxes here.1
          ∙ one_more (swept_box s) c.args.faces.now c.args.boxes.now i no_face c.loop-i-test.true c.requires.room;
    }

pub returns-clause-fault : goal.returns-clause-fault
returns-clause-fault c =
    let s = sheet_of c.args.points.now c.args.faces.now in
    told s None (none_is s (λ k h. c.loop-i.invariant.inside k (omega (arith, c.loop-i-test.false))))
