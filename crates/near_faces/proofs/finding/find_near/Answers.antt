use Rattle.std.proofs.Common.{◌≡◌, ℕ, length, is_ok, if◌then◌else◌, IfOk, List, take, subst, ◌∙◌}
use Rattle.sheet.specs.Sheet.{onto_front}
use Rattle.near_faces.specs.declared.boxes.SweptBox.{SweptBox}
use Rattle.sheet.specs.declared.drafts.Draft.{Draft}
use Rattle.sheet.specs.declared.rows.Point.{Point}
use Rattle.sheet.specs.declared.rows.Face.{Face}
use Rattle.inspection.specs.Sheets.{sheet_of, sheet_in}
use Rattle.near_faces.specs.Boxes.{swept_boxes}
use Rattle.near_faces.specs.Near.{near}
use Rattle.near_faces.proofs.Completing.{complete}
use Rattle.near_faces.proofs.Covering.{covering}
use Rattle.near_faces.proofs.finding.find_near.Goals as goal

pub returns-then-points-m-clause-covers : goal.returns-then-points-m-clause-covers
returns-then-points-m-clause-covers c = covering c.args.draft.now c.args.points.now c.args.faces.now

pub returns-then-points-m-clause-near : goal.returns-then-points-m-clause-near
returns-then-points-m-clause-near c = complete _

pub returns-in_err-sweep-clause-covers : goal.returns-in_err-sweep-clause-covers
returns-in_err-sweep-clause-covers c = covering c.args.draft.now c.args.points.now c.args.faces.now

pub returns-in_err-sweep-clause-near : goal.returns-in_err-sweep-clause-near
returns-in_err-sweep-clause-near c = complete _

pub returns-clause-covers : goal.returns-clause-covers
returns-clause-covers c = covering c.args.draft.now c.args.points.now c.args.faces.now

pub returns-clause-near : goal.returns-clause-near
returns-clause-near c = complete _

-- the boxes of the first rows of two tables
front_boxes : (d : Draft) (ps : List Point) (fs : List Face) (m n : ℕ) (bs : List SweptBox) → bs ≡ swept_boxes (sheet_of (take m ps) (take n fs)) → m ≡ d.points → n ≡ d.faces → bs ≡ swept_boxes (sheet_in d ps fs)
front_boxes d ps fs m n bs e p q = e ∙ (λ i. swept_boxes (sheet_of (take (p i) ps) (take (q i) fs)))

pub returns-clause-count : goal.returns-clause-count
returns-clause-count c =
    let e = front_boxes c.args.draft.now c.args.points.now c.args.faces.now _ _ _ c.in_ok-sweep.ensures.boxes c.points.ensures.count c.faces.ensures.count in
    subst (λ (bs : List SweptBox). IfOk c.search.result (λ n. n ≡ length (near bs))) e c.search.ensures.count

pub returns-clause-pairs : goal.returns-clause-pairs
returns-clause-pairs c =
    let e = front_boxes c.args.draft.now c.args.points.now c.args.faces.now _ _ _ c.in_ok-sweep.ensures.boxes c.points.ensures.count c.faces.ensures.count in
    subst (λ (bs : List SweptBox). c.search.new.pairs ≡ (if is_ok c.search.result then onto_front (near bs) c.args.pairs.now else c.args.pairs.now)) e c.search.ensures.pairs
