-- Answers do not depend on what is erased of the marks.
use Rattle.std.proofs.Common.{◌≡◌, ℕ, zero, suc, ◌-◌, Bool, true, false, cond, is_ok, List, [], ◌∷◌, ◌++◌, length, replicate, map, Ok, Err, Result, sym, refl, ap, ◌∙◌, subst, count_by, arith}
use Rattle.std.proofs.lemmas.List.{map-set, map-append, drop-map, length-map}
use Rattle.std.proofs.lemmas.List.Sums.{sum_by-cons}
use Rattle.std.proofs.Math.ListN.{get_or-map}
use Rattle.sheet.specs.Checks.{first_fit}
use Rattle.sheet.specs.declared.rows.Point.{Point}
use Rattle.sheet.specs.declared.rows.Face.{Face}
use Rattle.motion.specs.declared.shapes.Shape.{Shape}
use Rattle.motion.specs.declared.shapes.Kind.{Kind}
use Rattle.motion.specs.declared.shapes.Kind.TheVariants.{Vf, Ee}
use Rattle.inspection.specs.declared.faults.OfferFault.{OfferFault}
use Rattle.inspection.specs.declared.faults.TakingFault.{TakingFault}
use Rattle.inspection.specs.declared.faults.StandingFault.{StandingFault}
use Rattle.inspection.specs.declared.lists.Lists.{Lists}
use Rattle.inspection.specs.declared.marks.Mark.{Mark}
use Rattle.inspection.specs.declared.marks.Mark.TheVariants.{Free, Taken}
use Rattle.inspection.specs.declared.marks.Standing.{Standing}
use Rattle.inspection.specs.declared.slips.Handed.{Handed}
use Rattle.inspection.specs.declared.slips.RefusedSlip.{RefusedSlip}
use Rattle.inspection.specs.declared.slips.Slip.{Slip}
use Rattle.inspection.specs.declared.requests.Request.{Request}
use Rattle.inspection.specs.declared.requests.Request.TheVariants as request
use Rattle.inspection.specs.declared.requests.Answer.{Answer}
use Rattle.inspection.specs.Blind.{erased, lists_erased, state_erased, seen_by, OthersDiffer, Blind, MarksUnread}
use Rattle.inspection.specs.Lists.{Contents, grown_to}
use Rattle.inspection.specs.Marks.{new_entry, mark_at, is_free, is_taken, is_taken_by, standing_of}
use Rattle.inspection.specs.Offerings.{Offering}
use Rattle.inspection.specs.Offers.{OfferCall, offer_checks, state_after}
use Rattle.inspection.specs.Sheets.{sheet_in}
use Rattle.inspection.specs.Slips.{marked_as, mark_of, TakesFrom, HandsInto, Takes, HandsInAt, StandingAnswer, Stands}
use Rattle.inspection.specs.States.{State}
use Rattle.inspection.specs.Tests.{vf_naming, ee_naming}
use Rattle.inspection.specs.Windows.{window_checks}
use Rattle.inspection.specs.Requests.{RequestCall}
use Rattle.inspection.proofs.Agreeing.{itself}
use Rattle.inspection.proofs.Alike.{request-settled}

module _ (q : ℕ) where
  abbrev see : Mark → Mark
  see = seen_by q

  -- ---- what a reviewer sees tells all that is asked
  count_seen : (ms : List Mark) → count_by is_taken (map see ms) ≡ count_by is_taken ms
  count_seen [] = refl
  count_seen (m ∷ ms) =
      let one : Mark → ℕ = λ x. cond (is_taken x) 1 0 in
      grind (arith, count_seen ms, sum_by-cons one m ms, sum_by-cons one (see m) (map see ms))

  written : {E : Type 0} (b : Bool) (m : Mark) (i : ℕ) (g h : Contents E) → h ≡ cond b (marked_as m i g) g → erased see h ≡ cond b (marked_as (see m) i (erased see g)) (erased see g)
  written true m i g h is = ap (erased see) is ∙ (λ j. record (erased see g) { marks = map-set see g.marks i m j })
  written false m i g h is = ap (erased see) is

  module _ {E : Type 0} (g g' : Contents E) (same : erased see g ≡ erased see g') where
    -- what may be told of a mark is the same of both
    told : {A : Type 0} (p : Mark → A) → ((m : Mark) → p (see m) ≡ p m) → (i : ℕ) → p (mark_at g.marks i) ≡ p (mark_at g'.marks i)
    told p is i =
        let seen = λ (ms : List Mark). ap p (get_or-map see ms i Free) ∙ is (mark_at ms i) in
        sym (seen g.marks) ∙ ap (λ (h : Contents E). p (mark_at h.marks i)) same ∙ seen g'.marks

    entries : g.entries ≡ g'.entries
    entries = λ j. (same j).entries

    -- and so is what is left, where an accepted call writes a mark
    left : {X F : Type 0} (m : Mark) (i : ℕ) (h h' : Contents E) (r r' : Result X F) → r ≡ r' → h ≡ cond (is_ok r) (marked_as m i g) g → h' ≡ cond (is_ok r') (marked_as m i g') g'
        → erased see h ≡ erased see h'
    left m i h h' r r' e v w = written (is_ok r) m i g h v ∙ (λ j. cond (is_ok (e j)) (marked_as (see m) i (same j)) (same j)) ∙ sym (written (is_ok r') m i g' h' w)

    take_same : (l : Kind) (i n : ℕ) (h h' : Contents E) (r r' : Result Slip TakingFault) → TakesFrom l i n g r h → TakesFrom l i n g' r' h' → (r ≡ r') × (erased see h ≡ erased see h')
    take_same l i n h h' r r' v w =
        let e : r ≡ r' = grind (arith, v.fault, w.fault, v.slip, w.slip, entries, told is_free (λ m. grind arith) i) in
        (e, left (Taken n) i h h' r r' e v.list w.list)

    return_same : (x : Slip) → x.reviewer ≡ q → (how : Handed) (h h' : Contents E) (r r' : Result (Unit {0}) RefusedSlip) → HandsInto x how g r h → HandsInto x how g' r' h'
        → (r ≡ r') × (erased see h ≡ erased see h')
    return_same x his how h h' r r' v w =
        let e : r ≡ r' = grind (arith, his, v.fault, w.fault, v.slip, w.slip, entries, told (is_taken_by q) (λ m. grind arith) x.entry) in
        (e, left (mark_of how) x.entry h h' r r' e v.list w.list)

    stand_same : (i : ℕ) (r r' : Result Standing StandingFault) → StandingAnswer i g r → StandingAnswer i g' r' → r ≡ r'
    stand_same i r r' v w = grind (arith, v.fault, w.fault, v.value, w.value, entries, told standing_of (λ m. grind arith) i)

    -- of the list that no call is of
    stays : (h h' : Contents E) → h ≡ g → h' ≡ g' → erased see h ≡ erased see h'
    stays h h' e f = ap (erased see) e ∙ same ∙ sym (ap (erased see) f)

  -- ---- at both lists
  take-blind : (l : Kind) (i n : ℕ) (s s' t t' : Lists) (r r' : Result Slip TakingFault) → OthersDiffer q s s' → Takes l i n s r t → Takes l i n s' r' t' → (r ≡ r') × OthersDiffer q t t'
  take-blind Vf i n s s' t t' r r' same (v, e) (w, f) =
      let p = take_same s.vf s'.vf (λ j. (same j).vf) Vf i n t.vf t'.vf r r' v w in
      (p.0, λ j. record { vf = p.1 j; ee = stays s.ee s'.ee (λ k. (same k).ee) t.ee t'.ee e f j })
  take-blind Ee i n s s' t t' r r' same (v, e) (w, f) =
      let p = take_same s.ee s'.ee (λ j. (same j).ee) Ee i n t.ee t'.ee r r' v w in
      (p.0, λ j. record { vf = stays s.vf s'.vf (λ k. (same k).vf) t.vf t'.vf e f j; ee = p.1 j })

  return-blind : (l : Kind) (x : Slip) (how : Handed) (s s' t t' : Lists) (r r' : Result (Unit {0}) RefusedSlip) → x.reviewer ≡ q → OthersDiffer q s s' → HandsInAt l x how s r t → HandsInAt l x how s' r' t'
      → (r ≡ r') × OthersDiffer q t t'
  return-blind Vf x how s s' t t' r r' his same (v, e) (w, f) =
      let p = return_same s.vf s'.vf (λ j. (same j).vf) x his how t.vf t'.vf r r' v w in
      (p.0, λ j. record { vf = p.1 j; ee = stays s.ee s'.ee (λ k. (same k).ee) t.ee t'.ee e f j })
  return-blind Ee x how s s' t t' r r' his same (v, e) (w, f) =
      let p = return_same s.ee s'.ee (λ j. (same j).ee) x his how t.ee t'.ee r r' v w in
      (p.0, λ j. record { vf = stays s.vf s'.vf (λ k. (same k).vf) t.vf t'.vf e f j; ee = p.1 j })

  stand-blind : (l : Kind) (i : ℕ) (s s' : Lists) (r r' : Result Standing StandingFault) → OthersDiffer q s s' → Stands l i s r → Stands l i s' r' → r ≡ r'
  stand-blind Vf i s s' r r' same v w = stand_same s.vf s'.vf (λ j. (same j).vf) i r r' v w
  stand-blind Ee i s s' r r' same v w = stand_same s.ee s'.ee (λ j. (same j).ee) i r r' v w

  pub blind : Blind q
  blind =
      record {
        taking = take-blind;
        returning = λ x. return-blind x.list x;
        standing = stand-blind;
        out = λ s s' same. (
          sym (count_seen s.vf.marks) ∙ (λ j. count_by is_taken (same j).vf.marks) ∙ count_seen s'.vf.marks,
          sym (count_seen s.ee.marks) ∙ (λ j. count_by is_taken (same j).ee.marks) ∙ count_seen s'.ee.marks,
        );
      }

-- ---- the requests of an inspection: each goes on in the same way where marks are erased
module _ (e : Mark → Mark) (free : e Free ≡ Free) where
  still_free : (n : ℕ) → map e (replicate n Free) ≡ replicate n Free
  still_free zero = refl
  still_free (suc n) = λ j. free j ∷ still_free n j

  grown_erased : {E : Type 0} (es : List E) (h : Contents E) → erased e (grown_to es h) ≡ grown_to es (erased e h)
  grown_erased es h =
      let more = length es - length h.entries in
      λ j. record {
        entries = es;
        marks = (map-append e h.marks (replicate more Free) ∙ ap (λ (ms : List Mark). map e h.marks ++ ms) (still_free more)) j;
        rest = sym (drop-map (λ p. new_entry p.name) more h.rest) j;
        lender = h.lender;
      }

  module _ (set : Shape → Bool) (ps : List Point) (fs : List Face) where
    checks-erased : (o : Offering) (s : State) → first_fit (offer_checks set ps fs o s) ≡ first_fit (offer_checks set ps fs o (state_erased e s))
    checks-erased o s = rw (length-map s.lists.vf.rest (λ p. new_entry p.name), length-map s.lists.ee.rest (λ p. new_entry p.name)) refl

    offer-erased : (o : Offering) (s t : State) (r : Result (Unit {0}) OfferFault) → OfferCall set ps fs o s r t → OfferCall set ps fs o (state_erased e s) r (state_erased e t)
    offer-erased o s t (Ok u) a =
        let after = state_after set (sheet_in s.core.draft ps fs) o s in
        record {
          fault = a.fault ∙ checks-erased o s;
          state = ap (state_erased e) a.state ∙ (λ j. record { core = after.core; lists = record { vf = grown_erased after.lists.vf.entries s.lists.vf j; ee = grown_erased after.lists.ee.entries s.lists.ee j } });
        }
    offer-erased o s t (Err x) a = record { fault = a.fault ∙ checks-erased o s; state = ap (state_erased e) a.state }

    request-erased : (q : Request) (a : Answer) (s t : State) → RequestCall set ps fs q a s t → RequestCall set ps fs q a (state_erased e s) (state_erased e t)
    unfolding window_checks
    request-erased (request.SetDepth k) a s t (r, (f, c, v)) = (r, (f, c, ap (lists_erased e) v))
    request-erased (request.Offer o) a s t (r, (f, c)) = (r, (f, offer-erased o s t r c))
    request-erased (request.Window Vf i) a s t (r, (f, c, v)) = (r, (f, record { fault = c.fault; value = c.value; meaning = c.meaning }, ap (state_erased e) v))
    request-erased (request.Window Ee i) a s t (r, (f, c, v)) = (r, (f, record { fault = c.fault; value = c.value; meaning = c.meaning }, ap (state_erased e) v))
    request-erased (request.Earliest Vf i) a s t (r, (f, c, v)) = (r, (f, record { fault = c.fault; value = c.value; window = c.window; meaning = c.meaning }, ap (state_erased e) v))
    request-erased (request.Earliest Ee i) a s t (r, (f, c, v)) = (r, (f, record { fault = c.fault; value = c.value; window = c.window; meaning = c.meaning }, ap (state_erased e) v))

pub marks_unread : (set : Shape → Bool) → MarksUnread set
marks_unread set e free ps fs q a a' s s' t t' same c d =
    let here = sheet_in s'.core.draft ps fs in
    let k = s'.core.depth in
    request-settled set set ps fs q a' a (state_erased e s') (state_erased e t') (state_erased e t) (itself set vf_naming here k) (itself set ee_naming here k) (request-erased e free set ps fs q a' s' t' d)
    (subst (λ (u : State). RequestCall set ps fs q a u (state_erased e t)) same (request-erased e free set ps fs q a s t c))
