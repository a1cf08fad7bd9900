-- What an offer answers and leaves, from what its parts do.
use Rattle.std.proofs.Common.{◌≡◌, ℕ, ◌-◌, Bool, true, false, cond, ◌||◌, nat_lt, List, [], ◌∷◌, length, None, Ok, Err, Result, is_ok, refl, ap, ◌∙◌, subst, arith, length-append}
use Rattle.sheet.specs.Checks.{first_fit, fault_notice, check}
use Rattle.sheet.specs.declared.notices.Layer.TheVariants.{Offer}
use Rattle.sheet.proofs.FirstFit.{past}
use Rattle.sheet.specs.declared.rows.Point.{Point}
use Rattle.sheet.specs.declared.rows.Face.{Face}
use Rattle.motion.specs.declared.shapes.Shape.{Shape}
use Rattle.inspection.specs.declared.classes.Tally.{Tally}
use Rattle.inspection.specs.declared.faults.OfferFault.{OfferFault}
use Rattle.inspection.specs.declared.faults.OfferFault.TheVariants.{ListFull}
use Rattle.inspection.specs.declared.names.VfName.{VfName}
use Rattle.inspection.specs.declared.names.EeName.{EeName}
use Rattle.inspection.specs.Faults.{notice_of_offer}
use Rattle.inspection.specs.Offerings.{Offering}
use Rattle.inspection.specs.Sheets.{Sheet, sheet_in}
use Rattle.inspection.specs.Tests.{Naming, vf_naming, ee_naming}
use Rattle.inspection.specs.Lists.{Contents, grown_to}
use Rattle.inspection.specs.inner.Extending.{extended}
use Rattle.inspection.specs.States.{State, state_of, with_counts}
use Rattle.inspection.specs.Offers.{checks_but_room, room_check, offer_checks, entries_by, lacks_room, OfferCall}
use Rattle.inspection.specs.inner.Outcomes.{KindOutcome}
use Rattle.inspection.proofs.inspections.Inspection.offer.Goals as goal

-- of one kind: whether there is room for the new entries
room-is : {E : Type 0} (n : Naming E) (set : Shape → Bool) (d : ℕ) (s : Sheet) (o : Offering) (h : Contents E) (new : List E) (t : Tally) → KindOutcome n set d s o h.entries new t
    → nat_lt (length h.rest) (length new) ≡ lacks_room n set d s o h
room-is n set d s o h new t x =
    let k : length new ≡ length (entries_by n set d s o h.entries) - length h.entries = omega (arith, ap length x.entries, length-append h.entries new) in
    ap (nat_lt (length h.rest)) k

told : (b : Bool) → fault_notice {X = Unit {0}} notice_of_offer (cond b (Err ListFull) (Ok tt)) ≡ first_fit (check b 21 Offer 0 0 ∷ [])
told true = refl
told false = refl

-- of entries and tallies that are those of the rules
module _ (set : Shape → Bool) (ps : List Point) (fs : List Face) (o : Offering) (s : State) (vfs : List VfName) (vf_tally : Tally) (ees : List EeName) (ee_tally : Tally)
    (vf : KindOutcome vf_naming set s.core.depth (sheet_in s.core.draft ps fs) o s.lists.vf.entries vfs vf_tally)
    (ee : KindOutcome ee_naming set s.core.depth (sheet_in s.core.draft ps fs) o s.lists.ee.entries ees ee_tally)
    (early : None ≡ first_fit (checks_but_room s.core.draft ps fs o s.core.accepted)) (t : State) where
  abbrev sheet : Sheet
  sheet = sheet_in s.core.draft ps fs

  fault : (r : Result (Unit {0}) OfferFault) → r ≡ cond (nat_lt (length s.lists.vf.rest) (length vfs) || nat_lt (length s.lists.ee.rest) (length ees)) (Err ListFull) (Ok tt)
      → fault_notice notice_of_offer r ≡ first_fit (offer_checks set ps fs o s)
  fault r room =
      let vf_room = room-is vf_naming set s.core.depth sheet o s.lists.vf vfs vf_tally vf in
      let ee_room = room-is ee_naming set s.core.depth sheet o s.lists.ee ees ee_tally ee in
      ap (fault_notice notice_of_offer) room ∙ told (nat_lt (length s.lists.vf.rest) (length vfs) || nat_lt (length s.lists.ee.rest) (length ees))
      ∙ (λ i. first_fit (check (vf_room i || ee_room i) 21 Offer 0 0 ∷ []))
      ∙ past (checks_but_room s.core.draft ps fs o s.core.accepted) (room_check set sheet o s ∷ []) early

  stepped : (r : Result (Unit {0}) OfferFault) → r ≡ cond (nat_lt (length s.lists.vf.rest) (length vfs) || nat_lt (length s.lists.ee.rest) (length ees)) (Err ListFull) (Ok tt)
      → t.lists.vf ≡ cond (is_ok r) (extended vfs s.lists.vf) s.lists.vf → t.lists.ee ≡ cond (is_ok r) (extended ees s.lists.ee) s.lists.ee
      → t.core ≡ cond (is_ok r) (with_counts vf_tally ee_tally s.core) s.core → OfferCall set ps fs o s r t
  stepped (Ok tt) room v e c =
      record {
        fault = fault (Ok tt) room;
        state = λ i. record {
          core = (c ∙ (λ i. with_counts (vf.tally i) (ee.tally i) s.core)) i;
          lists = record {
            vf = (v ∙ ap (λ es. grown_to es s.lists.vf) vf.entries) i;
            ee = (e ∙ ap (λ es. grown_to es s.lists.ee) ee.entries) i;
          };
        };
      }
  stepped (Err x) room v e c = record { fault = fault (Err x) room; state = λ i. record { core = c i; lists = record { vf = v i; ee = e i } } }

pub returns-clause-call : goal.returns-clause-call
returns-clause-call g c =
    let a = c.args in
    let set = g.F.Filter.struck a.self.now.filter in
    let d = a.self.now.depth in
    let new = c.class_pair-new.result in
    let rows = c.in_ok-rows.ensures.rows in
    let s : State = state_of a.self.now a.lists.now in
    let t : State = state_of c.accept.new.self c.accept.new.lists in
    let vf = subst (λ (q : Sheet). KindOutcome vf_naming set d q a.what a.lists.now.vf.entries new.vf.items new.vf_tally) rows c.class_pair-new.ensures.vf in
    let ee = subst (λ (q : Sheet). KindOutcome ee_naming set d q a.what a.lists.now.ee.entries new.ee.items new.ee_tally) rows c.class_pair-new.ensures.ee in
    let e = c.accept.ensures in
    stepped set a.points.now a.faces.now a.what s new.vf.items new.vf_tally new.ee.items new.ee_tally vf ee c.in_ok-rows.ensures.fault t c.accept.result e.room e.vf e.ee e.core
