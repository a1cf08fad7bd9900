-- The marks of entries, and what they tell.
use Rattle.std.specs.Prelude.{ℕ, Bool, true, false, List, ◌==◌, slice_index_or}
use Rattle.inspection.specs.declared.marks.Mark.{Mark}
use Rattle.inspection.specs.declared.marks.Mark.TheVariants.{Free, Taken, Seen}
use Rattle.inspection.specs.declared.marks.Marked.{Marked}
use Rattle.inspection.specs.declared.marks.Standing.{Standing}
use Rattle.inspection.specs.declared.marks.Standing.TheVariants as standing

abbrev pub new_entry : {E : Type 0} → E → Marked E
new_entry e = record { name = e; mark = Free }

abbrev pub is_free : Mark → Bool
is_free Free = true
is_free (Taken r) = false
is_free Seen = false

abbrev pub is_taken : Mark → Bool
is_taken Free = false
is_taken (Taken r) = true
is_taken Seen = false

abbrev pub is_taken_by : ℕ → Mark → Bool
is_taken_by q Free = false
is_taken_by q (Taken r) = r == q
is_taken_by q Seen = false

abbrev pub standing_of : Mark → Standing
standing_of Free = standing.Free
standing_of (Taken r) = standing.Taken
standing_of Seen = standing.Seen

-- the mark of an entry; past the last one none is taken
abbrev pub mark_at : List Mark → ℕ → Mark
mark_at ms i = slice_index_or ms i Free
