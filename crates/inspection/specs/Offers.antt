-- An offer: its checks, in their order, and what it leaves where none fits.
use Rattle.std.specs.Prelude.{◌≡◌, ℕ, ◌-◌, Bool, not, if◌then◌else◌, ◌||◌, List, [], ◌∷◌, ◌++◌, length, Result, is_ok, ◌==◌, nat_le, nat_lt}
use Rattle.sheet.specs.Checks.{Check, first_fit, fault_notice, check}
use Rattle.sheet.specs.declared.notices.Layer.TheVariants.{Offer}
use Rattle.sheet.specs.declared.rows.Point.{Point}
use Rattle.sheet.specs.declared.rows.Face.{Face}
use Rattle.sheet.specs.declared.drafts.Draft.{Draft}
use Rattle.motion.specs.declared.shapes.Shape.{Shape}
use Rattle.inspection.specs.declared.classes.Tally.{Tally}
use Rattle.inspection.specs.declared.faults.OfferFault.{OfferFault}
use Rattle.inspection.specs.Faults.{notice_of_offer}
use Rattle.inspection.specs.Tallies.{no_tests}
use Rattle.inspection.specs.Offerings.{Offering, Faces}
use Rattle.inspection.specs.Sheets.{Sheet, sheet_in, face_at}
use Rattle.inspection.specs.Tests.{Naming, corners_below, vf_naming, ee_naming}
use Rattle.inspection.specs.Lists.{Contents, grown_to}
use Rattle.inspection.specs.Classes.{rules_at, entries_after, tally_after}
use Rattle.inspection.specs.States.{State, with_counts}

-- a table is shorter than its count
abbrev pub lacks_rows : Draft → List Point → List Face → Bool
lacks_rows d ps fs = nat_lt (length ps) d.points || nat_lt (length fs) d.faces

abbrev pub offer_limit : ℕ
offer_limit = 1000000

-- ---- the tests of one kind of what is offered, judged by a set at depth k
module _ {E : Type 0} (n : Naming E) (set : Shape → Bool) (k : ℕ) (sheet : Sheet) (o : Offering) where
  -- the entries after them, and how many there are of each class
  abbrev pub entries_by : List E → List E
  entries_by es = entries_after (rules_at n set k sheet) es (n.tests sheet o)

  abbrev pub tally_by : List E → Tally
  tally_by es = tally_after (rules_at n set k sheet) es (n.tests sheet o) no_tests

  -- less room than new entries
  abbrev pub lacks_room : Contents E → Bool
  lacks_room h = nat_lt (length h.rest) (length (entries_by h.entries) - length h.entries)

-- ---- the checks
-- of what is offered, over a sheet of this draft
abbrev pub pair_checks : Draft → Sheet → Offering → ℕ → List Check
pair_checks d sheet (Faces f g) accepted =
    check (nat_le d.faces f) 17 Offer f 0
    ∷ check (nat_le d.faces g) 17 Offer g 0
    ∷ check (f == g) 18 Offer f 0
    ∷ check (not (corners_below d.points (face_at sheet f))) 19 Offer f 0
    ∷ check (not (corners_below d.points (face_at sheet g))) 19 Offer g 0
    ∷ check (nat_le offer_limit accepted) 20 Offer 0 0 ∷ []

-- all but the last
abbrev pub checks_but_room : Draft → List Point → List Face → Offering → ℕ → List Check
checks_but_room d ps fs o accepted =
    check (lacks_rows d ps fs) 16 Offer 0 0 ∷ pair_checks d (sheet_in d ps fs) o accepted

abbrev pub room_check : (Shape → Bool) → Sheet → Offering → State → Check
room_check set sheet o s =
    let k = s.core.depth in
    let full = lacks_room vf_naming set k sheet o s.lists.vf || lacks_room ee_naming set k sheet o s.lists.ee in
    check full 21 Offer 0 0

abbrev pub offer_checks : (Shape → Bool) → List Point → List Face → Offering → State → List Check
offer_checks set ps fs o s =
    checks_but_room s.core.draft ps fs o s.core.accepted
    ++ (room_check set (sheet_in s.core.draft ps fs) o s ∷ [])

-- ---- what an accepted offer leaves
abbrev pub state_after : (Shape → Bool) → Sheet → Offering → State → State
state_after set sheet o s =
    let k = s.core.depth in
    let vf_tally = tally_by vf_naming set k sheet o s.lists.vf.entries in
    let ee_tally = tally_by ee_naming set k sheet o s.lists.ee.entries in
    record {
      core = with_counts vf_tally ee_tally s.core;
      lists = record {
        vf = grown_to (entries_by vf_naming set k sheet o s.lists.vf.entries) s.lists.vf;
        ee = grown_to (entries_by ee_naming set k sheet o s.lists.ee.entries) s.lists.ee;
      };
    }

-- offered to a filter's set over these tables, in the state s: r is answered, and t left
pub record OfferCall
    (set : Shape → Bool) (ps : List Point) (fs : List Face) (o : Offering)
    (s : State) (r : Result (Unit {0}) OfferFault) (t : State) : Type 0 where
  pub fault : fault_notice notice_of_offer r ≡ first_fit (offer_checks set ps fs o s)
  pub state : t ≡ (if is_ok r then state_after set (sheet_in s.core.draft ps fs) o s else s)
