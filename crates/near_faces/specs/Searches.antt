-- A search: its checks, in their order, and what it leaves.
use Rattle.std.specs.Prelude.{◌≡◌, ℕ, not, List, [], ◌∷◌, ◌++◌, length, nat_lt, Ok, Err, Option, Result, is_some, unwrap_or}
use Rattle.std.specs.List.{position}
use Rattle.sheet.specs.Checks.{Check, check, notice}
use Rattle.sheet.specs.declared.drafts.Draft.{Draft}
use Rattle.sheet.specs.declared.notices.Layer.TheVariants.{Search}
use Rattle.sheet.specs.declared.notices.Notice.{Notice}
use Rattle.sheet.specs.declared.rows.Point.{Point}
use Rattle.sheet.specs.declared.rows.Face.{Face}
use Rattle.inspection.specs.Offers.{lacks_rows}
use Rattle.inspection.specs.Sheets.{Sheet, sheet_in}
use Rattle.inspection.specs.Tests.{corners_inside}
use Rattle.near_faces.specs.declared.faults.SearchFault.{SearchFault}
use Rattle.near_faces.specs.declared.faults.SearchFault.TheVariants.{TableTooShort, NoSuchPoint, TooFewNodes, TooManyPairs}
use Rattle.near_faces.specs.declared.boxes.SweptBox.{SweptBox}
use Rattle.near_faces.specs.declared.nodes.Node.{Node}
use Rattle.near_faces.specs.Boxes.{swept_boxes}
use Rattle.near_faces.specs.Near.{near}
use Rattle.near_faces.specs.Trees.{places_for, TreeInFront}

abbrev pub notice_of_search : SearchFault → Notice
notice_of_search TableTooShort = notice 16 Search 0 0
notice_of_search (NoSuchPoint f) = notice 19 Search f 0
notice_of_search TooFewNodes = notice 24 Search 0 0
notice_of_search TooManyPairs = notice 25 Search 0 0

-- the lowest face that names a point which there is not
abbrev pub lowest_outside : Sheet → Option ℕ
lowest_outside s = position (λ f. not (corners_inside s f)) s.faces

abbrev pub outside_checks : Sheet → List Check
outside_checks s =
    let outside = lowest_outside s in
    check (is_some outside) 19 Search (unwrap_or outside 0) 0 ∷ []

-- the places that there are for nodes and for pairs, against what these boxes need
abbrev pub table_checks : List SweptBox → ℕ → ℕ → List Check
table_checks boxes nodes pairs =
    check (nat_lt nodes (places_for (length boxes))) 24 Search 0 0
    ∷ check (nat_lt pairs (length (near boxes))) 25 Search 0 0 ∷ []

abbrev pub search_checks : Draft → List Point → List Face → ℕ → ℕ → List Check
search_checks d ps fs nodes pairs =
    let s = sheet_in d ps fs in
    check (lacks_rows d ps fs) 16 Search 0 0
    ∷ (outside_checks s ++ table_checks (swept_boxes s) nodes pairs)

-- the table of nodes, old before and new after: the tree is built unless a check before it fits
abbrev pub NodesAfter : List SweptBox → Result ℕ SearchFault → List Node → List Node → Type 0
NodesAfter boxes (Ok n) old new = TreeInFront boxes old new
NodesAfter boxes (Err TooManyPairs) old new = TreeInFront boxes old new
NodesAfter boxes (Err fault) old new = new ≡ old
