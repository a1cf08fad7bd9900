-- What a record means: the rows whose record it is.
use Rattle.std.specs.Prelude.{◌≡◌, ℕ, IsTrue, List, [], ◌∷◌}
use Rattle.sheet.specs.Counted.{counted, within}
use Rattle.sheet.specs.declared.rows.Point.{Point}
use Rattle.step.specs.Record.{record_of}

-- qs are ps with other ends, all in range
abbrev pub OtherEnds : List Point → List Point → Type 0
OtherEnds [] [] = Unit {0}
OtherEnds [] (q ∷ qs) = ⊥
OtherEnds (p ∷ ps) [] = ⊥
OtherEnds (p ∷ ps) (q ∷ qs) = (q.start ≡ p.start) × IsTrue (within q.end) × OtherEnds ps qs

-- bs is the record of ps with the ends of qs
abbrev pub Step : List Point → List ℕ → List Point → Type 0
Step ps bs qs = OtherEnds ps qs × (record_of qs ≡ bs)

-- rows with their ends as they count
abbrev pub as_counted : List Point → List Point
as_counted [] = []
as_counted (p ∷ ps) = record { start = p.start; end = counted p.end } ∷ as_counted ps
