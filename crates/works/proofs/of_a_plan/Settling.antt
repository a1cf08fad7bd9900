-- What is printed of a plan settles the pairs that are not refused.
use Rattle.std.proofs.Common.{◌≡◌, ℕ, ◌+◌, ◌≤◌, Bool, true, List, [], ◌∷◌, ◌++◌, length, map, nat_lt, Some, None, Option, All, Contains, IsFalse, refl, sym, ap, ◌∙◌, subst, inl, inr, arith, lit≤}
use Rattle.std.specs.Prelude.{codes, decimal, flat_map, count_by, if◌then◌else◌}
use Rattle.std.proofs.Math.ListN.{get_or-map}
use Rattle.std.proofs.lemmas.Bool.{and_from, or_parts, ltb-false}
use Rattle.std.proofs.lemmas.List.Sums.{sum_by-cons, sum_by-append}
use Rattle.std.proofs.lemmas.List.{take_all, length-map}
use Rattle.std.proofs.lemmas.List.Elements.{All-weaker, All-contains, All-nil, All-cons, All-append, All-head, All-tail, Contains-append_right}
use Rattle.sheet.specs.Checks.{check}
use Rattle.sheet.specs.Lines.{lines_of}
use Rattle.sheet.specs.Notices.{name_of, fault_line}
use Rattle.sheet.specs.declared.notices.Layer.{Layer}
use Rattle.sheet.specs.declared.notices.Layer.TheVariants.{Field, Line, Sheet as SheetLayer, Step, Writer, Opening, Offer, Window, Report, Search, Slip}
use Rattle.sheet.specs.declared.notices.Notice.{Notice}
use Rattle.sheet.proofs.FirstFit.{none_parts, no_fit}
use Rattle.motion.specs.declared.shapes.Shape.{Shape}
use Rattle.motion.specs.Laws.{Apart}
use Rattle.motion.specs.Rows.{delivered}
use Rattle.inspection.specs.declared.offerings.Offering.{Offering}
use Rattle.inspection.specs.declared.offerings.Offering.TheVariants.{Faces}
use Rattle.inspection.specs.Lists.{has}
use Rattle.inspection.specs.Offerings.{SameOffering}
use Rattle.inspection.specs.Offers.{pair_checks}
use Rattle.inspection.specs.Runs.{Accepted}
use Rattle.inspection.specs.Sheets.{Sheet}
use Rattle.inspection.specs.Tests.{vf_naming, ee_naming}
use Rattle.report.specs.Lines.{vf_line, ee_line}
use Rattle.report.specs.Reports.{View, entry_limit, numbered_entries}
use Rattle.report.specs.Settled.{IsTold, Settled, IsAmong, is_fault}
use Rattle.report.proofs.Told.{IsInner, IsPlain, report_lines, report_are, report_plain, vf_told, ee_told, settled_tests}
use Rattle.report.proofs.WholeLines.{no_feed, AreLines, are_more, are_each, lines_are, no_feed-joined, no_feed-decimal}
use Rattle.plan.specs.PairBytes.{offerings_in}
use Rattle.plan.specs.Plans.{Plan, draft, fault, sheet}
use Rattle.works.specs.inspect.Plans.{walk, printout, printout_of, report_of, ClaimOfPlan}
use Rattle.works.specs.inspect.Settled.{SettlesPlan}
use Rattle.plan.specs.PairBytes.{pair_bytes}
use Rattle.works.specs.inspect.Walks.{Walk, Refusal, room, just_opened, walked, walk_on, sorted_in, refusal, is_full, vf_after, ee_after, refusal_lines}
use Rattle.works.proofs.of_a_plan.Sorting.{HasRefused, IsSorted, all_sorted}

-- ---- the line of a fault
no_feed-name : (l : Layer) → no_feed (name_of l) ≡ true
no_feed-name Field = refl
no_feed-name Line = refl
no_feed-name SheetLayer = refl
no_feed-name Step = refl
no_feed-name Writer = refl
no_feed-name Opening = refl
no_feed-name Offer = refl
no_feed-name Window = refl
no_feed-name Report = refl
no_feed-name Search = refl
no_feed-name Slip = refl

pub no_feed-fault : (n : Notice) → no_feed (fault_line n) ≡ true
no_feed-fault n =
    no_feed-joined
    (codes "fault " ∷ decimal n.number ∷ codes " " ∷ name_of n.layer ∷ codes " " ∷ decimal n.first ∷ codes " " ∷ decimal n.second ∷ [])
    (and_from _ _ (no_feed-decimal n.number) (and_from _ _ (no_feed-name n.layer) (and_from _ _ (no_feed-decimal n.first) (and_from _ _ (no_feed-decimal n.second) refl))))

pub inner_fault : (n : Notice) → IsInner (fault_line n)
inner_fault n = record { covered = refl; refused = refl }

pub tells_fault : (n : Notice) → is_fault (fault_line n) ≡ true
tells_fault n = refl

-- ---- no list has more entries than it may
abbrev Small : Walk → Type 0
Small w = (length w.found.entries.vf ≤ room) × (length w.found.entries.ee ≤ room)

module _ (set : Shape → Bool) (s : Sheet) where
  small_one : (w : Walk) (o : Offering) → Small w → Small (walk_on set s w o)
  small_one w o small = go (refusal set s o w.found) refl
    where
      go : (r : Option Notice) → refusal set s o w.found ≡ r → Small (sorted_in set s w o r)
      go (Some n) is = small
      go None is =
          let f = w.found in
          let full = (no_fit (check (is_full set s o f) 21 Offer 0 0) [] (none_parts (pair_checks f.core.draft s o f.core.accepted) (check (is_full set s o f) 21 Offer 0 0 ∷ []) is).1).0 in
          let both = or_parts (nat_lt room (length (vf_after set s o f))) (nat_lt room (length (ee_after set s o f))) full in
          (ltb-false room (length (vf_after set s o f)) both.0, ltb-false room (length (ee_after set s o f)) both.1)

  small : (os : List Offering) (w : Walk) → Small w → Small (walked set s w os)
  small [] w few = few
  small (o ∷ os) w few = small os (walk_on set s w o) (small_one w o few)

-- ---- counting the lines of faults
abbrev one_if : Bool → ℕ
one_if b = if b then 1 else 0

pub counted : (l : List ℕ) (ls : List (List ℕ)) → count_by is_fault (l ∷ ls) ≡ one_if (is_fault l) + count_by is_fault ls
counted l ls = sum_by-cons (λ x. one_if (is_fault x)) l ls

count_each : {X : Type 0} (line : X → List ℕ) → ((x : X) → is_fault (line x) ≡ true) → (xs : List X) → count_by is_fault (map line xs) ≡ length xs
count_each line tells [] = refl
count_each line tells (x ∷ xs) = omega (arith, counted (line x) (map line xs), ap one_if (tells x), count_each line tells xs)

pub count_none : (ls : List (List ℕ)) → All IsPlain ls → count_by is_fault ls ≡ 0
count_none [] h = refl
count_none (l ∷ ls) h = omega (arith, counted l ls, ap one_if (All-head IsPlain l ls h).fault, count_none ls (All-tail IsPlain l ls h))

pub count-append : (ls ms : List (List ℕ)) → count_by is_fault (ls ++ ms) ≡ count_by is_fault ls + count_by is_fault ms
count-append ls ms = sum_by-append (λ x. one_if (is_fault x)) ls ms

pub same_itself : (o : Offering) → SameOffering o o
same_itself (Faces f g) = inl (refl, refl)

-- the pairs that are refused
abbrev pub refused_in : Walk → List Offering
refused_in w = map (λ r. r.pair) w.refused

among : (w : Walk) (o : Offering) → HasRefused w o → IsAmong (refused_in w) o
among w o (k, r, here, is, same) =
    let pair = λ (x : Refusal). x.pair in
    (k, r.pair, omega (arith, length-map w.refused pair), get_or-map pair w.refused k r ∙ ap pair is, subst (SameOffering o) (sym same) (same_itself o))

pub bytes_of_pairs : (rs : List Refusal) → flat_map (λ r. pair_bytes r.pair) rs ≡ flat_map pair_bytes (map (λ r. r.pair) rs)
bytes_of_pairs [] = refl
bytes_of_pairs (r ∷ rs) = ap (λ bs. pair_bytes r.pair ++ bs) (bytes_of_pairs rs)

-- ---- a plan whose sheet and step have no fault
module _ (p : Plan) (none : fault p ≡ None) where
  abbrev w : Walk
  w = walk p

  view : View
  view = record { set = delivered; core = w.found.core; sheet = sheet p }

  abbrev why_lines : List (List ℕ)
  why_lines = map (λ r. fault_line r.why) w.refused

  pub plan_lines : List (List ℕ)
  unfolding view
  plan_lines = why_lines ++ report_lines view w.found.entries

  pub plan_are : AreLines (printout p).text plan_lines
  unfolding view plan_lines
  plan_are =
      subst (λ t. AreLines t plan_lines) (sym (ap (λ n. (printout_of delivered p n).text) none))
      (are_more (refusal_lines w) (report_of p w.found) why_lines (report_lines view w.found.entries)
      (are_each (λ (r : Refusal). fault_line r.why) (λ r. no_feed-fault r.why) w.refused) (report_are view w.found.entries))

  pub plan_inner : All IsInner plan_lines
  unfolding view plan_lines
  plan_inner =
      All-append IsInner why_lines (report_lines view w.found.entries) (each w.refused)
      (All-weaker IsPlain IsInner (λ l h. h.inner) (report_lines view w.found.entries) (report_plain view w.found.entries))
    where
      each : (rs : List Refusal) → All IsInner (map (λ r. fault_line r.why) rs)
      each [] = All-nil IsInner
      each (r ∷ rs) = All-cons IsInner (fault_line r.why) (map (λ r. fault_line r.why) rs) (inner_fault r.why) (each rs)

  pub plan_faults : count_by is_fault plan_lines ≡ length w.refused
  unfolding view plan_lines
  plan_faults =
      let a = count_each (λ (r : Refusal). fault_line r.why) (λ r. tells_fault r.why) w.refused in
      let b = count_none (report_lines view w.found.entries) (report_plain view w.found.entries) in
      omega (arith, count-append why_lines (report_lines view w.found.entries), a, b)

  -- ---- by a text that has these lines among its own
  module _ (claim : ClaimOfPlan p) (text : List ℕ) (within : (l : List ℕ) → Contains plan_lines l → Contains (lines_of text) l) where
    few : Small w
    few = small delivered (sheet p) (offerings_in p.pairs) (just_opened (draft p)) (lit≤ tt, lit≤ tt)

    all_numbered : {E : Type 0} (es : List E) → length es ≤ room → es ≡ numbered_entries es
    unfolding entry_limit
    all_numbered es few = sym (take_all entry_limit es (omega (arith, few)))

    told : (line_of : Option (ℕ × ℕ) → List ℕ) → (window : Option (ℕ × ℕ)) × Contains (report_lines view w.found.entries) (line_of window) → IsTold text line_of
    unfolding plan_lines
    told line_of (window, there) = (window, within (line_of window) (Contains-append_right why_lines (report_lines view w.found.entries) (line_of window) there))

    pub settled_accepted : (a : Accepted) → Contains w.accepted a → Settled (sheet p) text a.what
    settled_accepted a here =
        let c = (claim none).claim in
        record {
          vf = settled_tests vf_naming vf_line (sheet p) text w.found.entries.vf a.what
              (λ e h. told (vf_line e) (vf_told view w.found.entries e (subst (λ es. has vf_naming.same e es ≡ true) (all_numbered w.found.entries.vf few.0) h)))
              (All-contains (λ o. All (λ e. IsFalse (vf_naming.shared (sheet p) e) → IsFalse (has vf_naming.same e w.found.entries.vf) → Apart (vf_naming.shape (sheet p) e)) (vf_naming.tests (sheet p) o.what)) w.accepted a c.vf.apart here);
          ee = settled_tests ee_naming ee_line (sheet p) text w.found.entries.ee a.what
              (λ e h. told (ee_line e) (ee_told view w.found.entries e (subst (λ es. has ee_naming.same e es ≡ true) (all_numbered w.found.entries.ee few.1) h)))
              (All-contains (λ o. All (λ e. IsFalse (ee_naming.shared (sheet p) e) → IsFalse (has ee_naming.same e w.found.entries.ee) → Apart (ee_naming.shape (sheet p) e)) (ee_naming.tests (sheet p) o.what)) w.accepted a c.ee.apart here);
        }

    pub settled_others : All (λ o. ¬ IsAmong (refused_in w) o → Settled (sheet p) text o) (offerings_in p.pairs)
    settled_others =
        All-weaker (IsSorted w) (λ o. ¬ IsAmong (refused_in w) o → Settled (sheet p) text o) (λ o sorted. by o sorted) (offerings_in p.pairs)
        (all_sorted delivered (sheet p) (just_opened (draft p)) (offerings_in p.pairs))
      where
        by : (o : Offering) → IsSorted w o → ¬ IsAmong (refused_in w) o → Settled (sheet p) text o
        by o (inl (k, a, here, is, same)) other = subst (Settled (sheet p) text) same (settled_accepted a (k, here, is))
        by o (inr r) other = absurd (other (among w o r))

pub settled_plan : (p : Plan) → fault p ≡ None → ClaimOfPlan p → SettlesPlan p (printout p).text (printout p).stored
settled_plan p none claim =
    let lines = lines_are (printout p).text (plan_lines p none) (plan_are p none) in
    record {
      refused = refused_in (walk p);
      bytes_are = ap (λ n. (printout_of delivered p n).stored) none ∙ bytes_of_pairs (walk p).refused;
      lines = ap (count_by is_fault) lines ∙ plan_faults p none ∙ sym (length-map (walk p).refused (λ (r : Refusal). r.pair));
      others = settled_others p none claim (printout p).text (λ l h. subst (λ ls. Contains ls l) (sym lines) h);
    }
