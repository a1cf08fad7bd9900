-- An offer makes one more step of the walk, and pairs are offered one after another.
use Rattle.std.proofs.Common.{◌≡◌, ℕ, ◌+◌, ◌-◌, ◌≤◌, Bool, false, if◌then◌else◌, ◌||◌, List, [], ◌∷◌, ◌++◌, length, drop, flat_map, Some, None, Ok, Err, Result, IfOk, MatchResult, nat_lt, IsTrue, refl, sym, ap, ◌∙◌, subst, arith, length-drop, append_assoc, append-nil, All}
use Rattle.std.proofs.lemmas.Bool.Decides.{nat_tests}
use Rattle.std.proofs.lemmas.Bool.{or_parts, ltb-false}
use Rattle.std.proofs.Math.Seq.{drop-append_seam, drop-length}
use Rattle.std.proofs.lemmas.List.Sums.{fold-append}
use Rattle.inspection.specs.Claims.{OfSheet}
use Rattle.inspection.proofs.Inside.{VfIn, EeIn, after_all, vf_in, ee_in}
use Rattle.inspection.proofs.Moments.{OfferFacts, moment}
use Rattle.std.proofs.lemmas.List.Elements.{All-head, All-tail}
use Rattle.sheet.proofs.FirstFit.{none_parts, no_fit}
use Rattle.sheet.specs.Checks.{first_fit, fault_notice, check}
use Rattle.sheet.specs.declared.notices.Layer.TheVariants.{Offer}
use Rattle.sheet.specs.declared.notices.Notice.{Notice}
use Rattle.sheet.specs.declared.drafts.Draft.{Draft}
use Rattle.sheet.specs.declared.rows.Point.{Point}
use Rattle.sheet.specs.declared.rows.Face.{Face}
use Rattle.motion.specs.declared.shapes.Shape.{Shape}
use Rattle.inspection.specs.declared.faults.OfferFault.{OfferFault}
use Rattle.inspection.specs.Classes.{rules_at}
use Rattle.inspection.specs.Faults.{notice_of_offer}
use Rattle.inspection.specs.Lists.{Contents, grown_to}
use Rattle.inspection.specs.declared.offerings.Offering.{Offering}
use Rattle.inspection.specs.declared.offerings.Offering.TheVariants.{Faces}
use Rattle.inspection.specs.Offers.{pair_checks, offer_checks, room_check, entries_by, state_after, OfferCall}
use Rattle.inspection.specs.Runs.{Run, offered as run_offered}
use Rattle.inspection.specs.Sheets.{Sheet, sheet_in}
use Rattle.inspection.specs.States.{State}
use Rattle.inspection.specs.Tests.{Naming, vf_naming, ee_naming}
use Rattle.hosts.specs.Events.{Event, Printed, Stored, Call, Printing, Storing}
use Rattle.hosts.specs.Traces.{CutOff}
use Rattle.hosts.specs.Writing.{Written, printing, storing, WritesSo, Prints}
use Rattle.hosts.proofs.Printing.{printed_at_once}
use Rattle.hosts.proofs.Writing.{stored_at_once, none_written, written_then, written_short, written_with}
use Rattle.plan.specs.Notices.{notice_line}
use Rattle.plan.specs.PairBytes.{pair_bytes}
use Rattle.works.specs.inspect.inner.Progress.{Listed, found_in, Made, Tells, Offers}
use Rattle.works.specs.inspect.Walks.{Walk, Refusal, room, refusal_written, is_full, refusal, found_after, vf_after, ee_after, sorted_in, walk_on, walked, refusals_written}
use Rattle.works.proofs.of_a_plan.Sorting as walk

if_ok : {X C A : Type 0} → A → (how : Result X C) → IfOk how (λ x. A)
if_ok a (Ok x) = a
if_ok a (Err c) = tt

last_of : {X : Type 0} (P : X → Type 0) (xs : List X) (x : X) → All P (xs ++ (x ∷ [])) → P x
last_of P [] x all = All-head P x [] all
last_of P (y ∷ ys) x all = last_of P ys x (All-tail P y (ys ++ (x ∷ [])) all)

-- the tests of two faces of the sheet have numbers of the sheet
tests_inside : (sheet : Sheet) (o : Offering) → OfSheet sheet o → All (VfIn sheet) (vf_naming.tests sheet o) × All (EeIn sheet) (ee_naming.tests sheet o)
tests_inside sheet (Faces f g) a = (vf_in sheet f g a.first a.second a.first_corners a.second_corners, ee_in sheet f g a.first a.second a.first_corners a.second_corners)

-- less room than new entries: more entries than there may be
less_room : (n r m : ℕ) → n + r ≡ room → nat_lt r (m - n) ≡ nat_lt room m
less_room n r m e = grind (arith, nat_tests)

module _ (set : Shape → Bool) (ps : List Point) (fs : List Face) (o : Offering) (s : State) where
  abbrev here : Sheet
  here = sheet_in s.core.draft ps fs

  -- a list after an offer for which it has room
  lists_after : {E : Type 0} (n : Naming E) (list : Contents E) → let after = entries_by n set s.core.depth here o list.entries in
      Listed n here list → All (λ e. IsTrue (n.inside here e)) (n.tests here o) → length list.entries ≤ length after → nat_lt room (length after) ≡ false → Listed n here (grown_to after list)
  lists_after n list l new more fits =
      let after = entries_by n set s.core.depth here o list.entries in
      record {
        room = omega (arith, l.room, length-drop (length after - length list.entries) list.rest, ltb-false room (length after) fits, more);
        inside = after_all (rules_at n set s.core.depth here) (λ e. IsTrue (n.inside here e)) list.entries (n.tests here o) l.inside new;
      }

  module _ (d : Draft) (w : Walk) (m : Made set d ps fs w s) where
    abbrev sheet : Sheet
    sheet = sheet_in d ps fs

    same_refusal : first_fit (offer_checks set ps fs o s) ≡ refusal set here o (found_in s)
    same_refusal =
        let k = s.core.depth in
        let vf = less_room (length s.lists.vf.entries) (length s.lists.vf.rest) (length (entries_by vf_naming set k here o s.lists.vf.entries)) m.vf.room in
        let ee = less_room (length s.lists.ee.entries) (length s.lists.ee.rest) (length (entries_by ee_naming set k here o s.lists.ee.entries)) m.ee.room in
        let checks = pair_checks s.core.draft here o s.core.accepted in
        ap (λ b. if b then Some (check b 16 Offer 0 0).tells else first_fit (checks ++ (room_check set here o s ∷ []))) m.rows
        ∙ (λ i. first_fit (checks ++ (check (vf i || ee i) 21 Offer 0 0 ∷ [])))

    -- the walk refuses it as the inspection does
    refuses : (r : Result (Unit {0}) OfferFault) (t : State) → OfferCall set ps fs o s r t → fault_notice notice_of_offer r ≡ refusal set sheet o w.found
    refuses r t step = step.fault ∙ same_refusal ∙ (λ i. refusal set (sheet_in (m.draft i) ps fs) o (m.found i))

    sorted : (r : Result (Unit {0}) OfferFault) (t : State) → OfferCall set ps fs o s r t → Made set d ps fs (sorted_in set sheet w o (fault_notice notice_of_offer r)) t
    sorted (Err e) t step =
        subst (Made set d ps fs (sorted_in set sheet w o (Some (notice_of_offer e)))) (sym step.state)
        (record { draft = m.draft; found = m.found; rows = m.rows; vf = m.vf; ee = m.ee; run = m.run })
    sorted (Ok u) t step =
        let full = check (is_full set here o (found_in s)) 21 Offer 0 0 in
        let none = none_parts (pair_checks s.core.draft here o s.core.accepted) (full ∷ []) (sym same_refusal ∙ sym step.fault) in
        let fits = or_parts (nat_lt room (length (vf_after set here o (found_in s)))) (nat_lt room (length (ee_after set here o (found_in s)))) (no_fit full [] none.1).0 in
        let after = state_after set here o s in
        let run = run_offered ps fs o (Ok u) after m.run (λ rows. refl) (record { fault = step.fault; state = refl }) in
        let before = moment set s.core.draft here m.run in
        let now = moment set s.core.draft here run in
        let new = tests_inside here o (last_of (OfferFacts here) w.accepted (record { what = o; depth = s.core.depth }) now.each).of_sheet in
        subst (Made set d ps fs (sorted_in set sheet w o None)) (sym step.state)
        (record {
          draft = m.draft;
          found = λ i. found_after set (sheet_in (m.draft i) ps fs) o (m.found i);
          rows = m.rows;
          vf = lists_after vf_naming s.lists.vf m.vf new.0 (omega (arith, before.vf.counts.kept, now.vf.counts.kept)) fits.0;
          ee = lists_after ee_naming s.lists.ee m.ee new.1 (omega (arith, before.ee.counts.kept, now.ee.counts.kept)) fits.1;
          run = subst (λ k. Run set s.core.draft here (w.accepted ++ (record { what = o; depth = k } ∷ [])) [] after) (ap (λ f. f.core.depth) m.found) run;
        })

    made : (r : Result (Unit {0}) OfferFault) (t : State) → OfferCall set ps fs o s r t → Made set d ps fs (walk_on set sheet w o) t
    made r t step = subst (λ n. Made set d ps fs (sorted_in set sheet w o n) t) (refuses r t step) (sorted r t step)

-- ---- in the words of the calls
module _ {S F E : Type 0} (does : S → Event F → S → Type 0) (fails : S → Call F → E → S → Type 0) where
  -- a line is printed, and then a pair is stored
  module _ {Y : Type 0} (s t : S) (n : Notice) (o : Offering) (line : List ℕ) (is_line : line ≡ notice_line n) where
    pub tells : (u : S) (bytes : List ℕ) (r : Result Y E) → does s (Printed line) t
        → MatchResult r (λ y. does t (Stored bytes) u) (λ e. CutOff does fails t Stored Storing bytes e u) → bytes ≡ pair_bytes o → Tells does fails n o s r u
    unfolding Tells
    tells u bytes r did stored is =
        subst (λ ws. WritesSo does fails ws (λ y. Unit {0}) s r u) (λ i. printing (is_line i) ++ storing (is i))
        (written_then does fails (λ x. Unit {0}) (λ y. Unit {0}) s t u (printing line) (storing bytes) tt r (printed_at_once does fails s t line (Ok (tt {0})) did) (stored_at_once does fails t u bytes r stored))

    pub tells_short : (e : E) (r : Result Y E) → CutOff does fails s Printed Printing line e t → r ≡ Err e → Tells does fails n o s r t
    unfolding Tells
    tells_short e r cut is =
        written_short does fails (λ y. Unit {0}) s t (printing (notice_line n)) (storing (pair_bytes o)) e r (subst (λ l. Prints {X = Unit {0}} does fails l s (Err e) t) is_line (printed_at_once does fails {X = Unit {0}} s t line (Err e) cut)) is

  module _ (set : Shape → Bool) (ps : List Point) (fs : List Face) where
    module _ (o : Offering) (s t : State) (d : Draft) (w : Walk) (m : Made set d ps fs w s) where
      -- what is written of it
      one_written : (r : Result (Unit {0}) OfferFault) → OfferCall set ps fs o s r t → refusals_written set (sheet_in d ps fs) w (o ∷ [])
          ≡ flat_map refusal_written (drop (length w.refused) (sorted_in set (sheet_in d ps fs) w o (fault_notice notice_of_offer r)).refused)
      one_written r step = ap (λ n. flat_map refusal_written (drop (length w.refused) (sorted_in set (sheet_in d ps fs) w o n).refused)) (sym (refuses set ps fs o s d w m r t step))

    module _ (o : Offering) (s t : State) where
      pub offer_accepted : (h : S) → OfferCall set ps fs o s (Ok tt) t → Offers {X = Unit {0}} does fails set ps fs (o ∷ []) s t h (Ok tt) h
      unfolding Offers
      offer_accepted h step d w m =
          let Q = λ (x : Unit {0}). Made set d ps fs (walk_on set (sheet_in d ps fs) w o) t in
          subst (λ l. WritesSo does fails l Q h (Ok tt) h) (sym (one_written o s t d w m (Ok tt) step ∙ ap (flat_map refusal_written) (drop-length w.refused)))
          (none_written does fails Q h tt (made set ps fs o s d w m (Ok tt) t step))

      pub offer_refused : (X : Type 0) (h h' : S) (e : OfferFault) (n : Notice) → OfferCall set ps fs o s (Err e) t → n ≡ notice_of_offer e → (r : Result X E)
          → Tells does fails n o h r h' → Offers does fails set ps fs (o ∷ []) s t h r h'
      unfolding Tells Offers
      offer_refused X h h' e n step why r work d w m =
          let one : Refusal = record { pair = o; why = n } in
          let Q = λ (x : X). Made set d ps fs (walk_on set (sheet_in d ps fs) w o) t in
          let is = one_written o s t d w m (Err e) step ∙ ap (λ k. flat_map refusal_written (drop (length w.refused) (w.refused ++ (record { pair = o; why = k } ∷ [])))) (sym why)
          ∙ ap (flat_map refusal_written) (drop-append_seam w.refused (one ∷ [])) ∙ append-nil (refusal_written one) in
          subst (λ l. WritesSo does fails l Q h r h') (sym is) (written_with does fails _ Q h h' (refusal_written one) r work (if_ok (made set ps fs o s d w m (Err e) t step) r))

    pub none_offered : (s : State) (h : S) → Offers {X = Unit {0}} does fails set ps fs [] s s h (Ok tt) h
    unfolding Offers
    none_offered s h d w m =
        subst (λ l. WritesSo does fails l (λ (x : Unit {0}). Made set d ps fs w s) h (Ok tt) h) (sym (walk.none_written set (sheet_in d ps fs) w)) (none_written does fails (λ (x : Unit {0}). Made set d ps fs w s) h tt m)

    pub offers_then : (os more : List Offering) (s t u : State) (h i j : S) (r : Result (Unit {0}) E)
        → Offers {X = Unit {0}} does fails set ps fs os s t h (Ok tt) i → Offers does fails set ps fs more t u i r j → Offers does fails set ps fs (os ++ more) s u h r j
    unfolding Offers
    offers_then os more s t u h i j r first second d w m =
        let sheet = sheet_in d ps fs in
        let v = walked set sheet w os in
        let a = first d w m in
        subst (λ (k : List Written × Walk). WritesSo does fails k.0 (λ x. Made set d ps fs k.1 u) h r j)
        (sym (λ i. (walk.written_then set sheet w os more i, fold-append (walk_on set sheet) w os more i)))
        (written_then does fails (λ x. Made set d ps fs v t) (λ x. Made set d ps fs (walked set sheet v more) u) h i j (refusals_written set sheet w os) (refusals_written set sheet v more) tt r
        a (second d v a.good.answer))

    -- a call fails at a pair, and more pairs were to be offered
    pub offers_short : (os later all : List Offering) (o : Offering) (s t u v : State) (h i j : S) (e : E) (r : Result (Unit {0}) E) → r ≡ Err e → all ≡ os ++ (o ∷ later)
        → Offers {X = Unit {0}} does fails set ps fs os s t h (Ok tt) i → Offers {X = Unit {0}} does fails set ps fs (o ∷ []) t u i (Err e) j → Offers does fails set ps fs all s v h r j
    unfolding Offers
    offers_short os later all o s t u v h i j e r is split first second d w m =
        let sheet = sheet_in d ps fs in
        let tried = os ++ (o ∷ []) in
        let more = refusals_written set sheet (walked set sheet w tried) later in
        let Q = λ (x : Unit {0}). Made set d ps fs (walked set sheet w all) v in
        let pairs : all ≡ tried ++ later = split ∙ sym (append_assoc os (o ∷ []) later) in
        subst (λ l. WritesSo does fails l Q h r j) (sym (ap (refusals_written set sheet w) pairs ∙ walk.written_then set sheet w tried later))
        (written_short does fails Q h j (refusals_written set sheet w tried) more e r (offers_then os (o ∷ []) s t u h i j (Err e) first second d w m) is)
