-- What a list holds.
use Rattle.std.specs.Prelude.{ℕ, ◌-◌, Bool, List, [], ◌∷◌, ◌++◌, length, drop, map, replicate}
use Rattle.std.specs.List.{list_any}
use Rattle.inspection.specs.declared.marks.Mark.{Mark}
use Rattle.inspection.specs.declared.marks.Mark.TheVariants.{Free}
use Rattle.inspection.specs.declared.marks.Marked.{Marked}

-- its entries, by their names; the mark of each; the rest of its table; and who lent the table
pub record Contents (E : Type 0) : Type 0 where
  pub entries : List E
  pub marks : List Mark
  pub rest : List (Marked E)
  pub lender : ℕ

-- of a table in which no entry stands yet
abbrev pub empty_over : {E : Type 0} → List (Marked E) → ℕ → Contents E
empty_over table lender = record { entries = []; marks = []; rest = table; lender = lender }

abbrev pub names : {E : Type 0} → List (Marked E) → List E
names places = map (λ p. p.name) places

abbrev pub marks : {E : Type 0} → List (Marked E) → List Mark
marks places = map (λ p. p.mark) places

-- the places with these names and marks
abbrev pub places : {E : Type 0} → List E → List Mark → List (Marked E)
places [] ms = []
places (e ∷ es) [] = []
places (e ∷ es) (m ∷ ms) = record { name = e; mark = m } ∷ places es ms

-- grown to these entries: the new ones are free
abbrev pub grown_to : {E : Type 0} → List E → Contents E → Contents E
grown_to es h =
    let more = length es - length h.entries in
    record {
      entries = es;
      marks = h.marks ++ replicate more Free;
      rest = drop more h.rest;
      lender = h.lender;
    }

-- the same table, and no entry
abbrev pub without_entries : {E : Type 0} → Contents E → Contents E
without_entries h =
    record {
      entries = [];
      marks = [];
      rest = places h.entries h.marks ++ h.rest;
      lender = h.lender;
    }

-- some entry is the same
abbrev pub has : {E : Type 0} → (E → E → Bool) → E → List E → Bool
has same e es = list_any (same e) es
