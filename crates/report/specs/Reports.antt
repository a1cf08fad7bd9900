-- The report of an inspection: its text, and the checks of the call in their order.
use Rattle.std.specs.Prelude.{ℕ, ◌+◌, Bool, not, List, [], ◌∷◌, ◌++◌, length, take, Option, is_none, if◌then◌else◌, nat_lt, flat_map, codes}
use Rattle.sheet.specs.declared.notices.Layer.TheVariants.{Report}
use Rattle.sheet.specs.Checks.{Check, first_fit, check}
use Rattle.sheet.specs.declared.rows.Point.{Point}
use Rattle.sheet.specs.declared.rows.Face.{Face}
use Rattle.sheet.specs.declared.drafts.Draft.{Draft}
use Rattle.motion.specs.declared.shapes.Shape.{Shape}
use Rattle.motion.specs.Depths.{window_at}
use Rattle.inspection.specs.Sheets.{Sheet, sheet_in}
use Rattle.inspection.specs.Tests.{Naming, vf_naming, ee_naming}
use Rattle.inspection.specs.declared.classes.Tally.{Tally}
use Rattle.inspection.specs.declared.inspections.Inspection.{Inspection}
use Rattle.inspection.specs.States.{Core, Entries, core_of}
use Rattle.inspection.specs.Tallies.{tally_in}
use Rattle.inspection.specs.Offers.{lacks_rows}
use Rattle.motion.specs.declared.shapes.Kind.{Kind}
use Rattle.motion.specs.declared.shapes.Kind.TheVariants.{Vf, Ee}
use Rattle.report.specs.Faults.{place_of}
use Rattle.report.specs.Lines.{vf_line, ee_line, count_line}

-- the inspection that is reported, by its filter's set, and its sheet
pub record View : Type 0 where
  pub set : Shape → Bool
  pub core : Core
  pub sheet : Sheet

abbrev pub view_over : {F : Type 0} → (F → Shape → Bool) → Inspection F → Sheet → View
view_over struck i s = record { set = struck i.filter; core = core_of i; sheet = s }

-- the sheet as the tables hold it
abbrev pub view_of : {F : Type 0}
    → (F → Shape → Bool) → Inspection F → List Point → List Face → View
view_of struck i ps fs = view_over struck i (sheet_in i.draft ps fs)

-- the entries that have a number, which is below 2^32; an inspection lists at most nine million
unfoldable pub entry_limit : ℕ
entry_limit = 4294967296

abbrev pub numbered_entries : {E : Type 0} → List E → List E
numbered_entries es = take entry_limit es

-- ---- of a list
-- an entry, with its window at the depth now set
abbrev pub entry_line : {E : Type 0}
    → Naming E → View → (E → Option (ℕ × ℕ) → List ℕ) → E → List ℕ
entry_line n v line e = line e (window_at v.set v.core.depth (n.shape v.sheet e)) ++ codes "\n"

-- by what its entries name, and which list it is
module _ {E : Type 0} (n : Naming E) (l : Kind) where
  -- over a sheet: of the entries from number i on
  abbrev pub checks_from : Sheet → ℕ → List E → List Check
  checks_from s i [] = []
  checks_from s i (e ∷ es) =
      check (not (n.inside s e)) 19 Report i (place_of l) ∷ checks_from s (i + 1) es

  abbrev pub entry_checks : Sheet → List E → List Check
  entry_checks s es = checks_from s 0 (numbered_entries es)

  -- its entries, and its counts
  abbrev pub section : View → (E → Option (ℕ × ℕ) → List ℕ) → List E → Tally → List ℕ
  section v line es t =
      flat_map (entry_line n v line) (numbered_entries es) ++ (count_line l t ++ codes "\n")

-- ---- of the entries of both lists
unfoldable pub report_text : View → Entries → List ℕ
report_text v es =
    section vf_naming Vf v vf_line es.vf (tally_in Vf v.core.tallies)
    ++ section ee_naming Ee v ee_line es.ee (tally_in Ee v.core.tallies)

abbrev pub list_checks : Sheet → Entries → List Check
list_checks s es = entry_checks vf_naming Vf s es.vf ++ entry_checks ee_naming Ee s es.ee

-- of a call over these tables, whatever the output
abbrev pub len_checks : Draft → List Point → List Face → Entries → List Check
len_checks d ps fs es =
    check (lacks_rows d ps fs) 16 Report 0 0 ∷ list_checks (sheet_in d ps fs) es

-- for an output of so many bytes
abbrev pub output_check : List ℕ → ℕ → Check
output_check text room = check (nat_lt room (length text)) 23 Report 0 0

-- what is printed: nothing, where a check fits
abbrev pub printed_unless : List Check → List ℕ → List ℕ
printed_unless checks text = if is_none (first_fit checks) then text else []
