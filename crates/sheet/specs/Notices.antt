-- The line that tells a fault.
use Rattle.std.specs.Prelude.{ℕ, List, ◌++◌, codes, decimal}
use Rattle.sheet.specs.declared.notices.Layer.{Layer}
use Rattle.sheet.specs.declared.notices.Layer.TheVariants.{Field, Line, Sheet, Step, Writer, Opening, Offer, Window, Report, Search, Slip}
use Rattle.sheet.specs.declared.notices.Notice.{Notice}

abbrev pub name_of : Layer → List ℕ
name_of Field = codes "field"
name_of Line = codes "line"
name_of Sheet = codes "sheet"
name_of Step = codes "step"
name_of Writer = codes "writer"
name_of Opening = codes "opening"
name_of Offer = codes "offer"
name_of Window = codes "window"
name_of Report = codes "report"
name_of Search = codes "search"
name_of Slip = codes "slip"

-- the word fault, the number, the layer and the two places, one space between two of them
abbrev pub fault_line : Notice → List ℕ
fault_line n =
    codes "fault " ++ (decimal n.number
    ++ (codes " " ++ (name_of n.layer
    ++ (codes " " ++ (decimal n.first
    ++ (codes " " ++ decimal n.second))))))
