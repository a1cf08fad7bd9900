-- The pairs of a table, offered one after another, and then the report.
use Rattle.std.proofs.Common.{◌≡◌, ℕ, ◌+◌, ◌-◌, ◌≤◌, ◌<◌, Bool, List, [], ◌∷◌, ◌++◌, length, take, drop, map, get_or, Some, None, Option, Ok, Err, Result, sym, ap, ◌∙◌, subst, arith, ◌||◌, length-append}
use Rattle.std.proofs.lemmas.Bool.{le-ltb}
use Rattle.std.proofs.lemmas.List.{length-map, map-append, take_more, at_drop_more, take-append-drop}
use Rattle.hosts.specs.Events.{Event, Call}
use Rattle.hosts.specs.Writing.{Written, printing, WritesSo, Prints}
use Rattle.hosts.proofs.Writing.{written_then, written_short}
use Rattle.sheet.specs.declared.drafts.Draft.{Draft}
use Rattle.sheet.specs.declared.notices.Notice.{Notice}
use Rattle.sheet.specs.declared.rows.Point.{Point}
use Rattle.sheet.specs.declared.rows.Face.{Face}
use Rattle.motion.specs.Rows.{delivered}
use Rattle.motion.specs.declared.shapes.Shape.{Shape}
use Rattle.inspection.specs.Claims.{WholeClaim, Findings}
use Rattle.inspection.specs.Sheets.{Sheet, sheet_in}
use Rattle.inspection.specs.States.{State, entries_of}
use Rattle.inspection.specs.declared.offerings.Offering.{Offering}
use Rattle.near_faces.specs.declared.pairs.Pair.{Pair}
use Rattle.report.specs.Reports.{report_text}
use Rattle.plan.specs.declared.endings.Ending.{Ending}
use Rattle.works.specs.inspect.inner.Progress.{Made, Begins, Reportable, Offers}
use Rattle.near_faces.specs.Near.{offering_of}
use Rattle.works.specs.inspect.Rows.{walk_over, rows_written, RowsEnd, InspectsRows}
use Rattle.works.specs.inspect.Walks.{Walk, Found, just_opened, sorted_in, walk_on, walked, refusal, refusals_written}
use Rattle.works.proofs.of_a_plan.FileOfPairs.{report_in, no_faults}
use Rattle.works.proofs.of_a_plan.Offers.{offers_then, offers_short}

-- ---- each pair that is offered is accepted or refused
module _ (set : Shape → Bool) (s : Sheet) where
  one_sorted : (w : Walk) (o : Offering) (n : Option Notice) → (sorted_in set s w o n).found.core.accepted + length (sorted_in set s w o n).refused ≡ w.found.core.accepted + length w.refused + 1
  one_sorted w o None = omega arith
  one_sorted w o (Some n) = omega (arith, length-append w.refused (record { pair = o; why = n } ∷ []))

  all_counted : (w : Walk) (os : List Offering) → (walked set s w os).found.core.accepted + length (walked set s w os).refused ≡ w.found.core.accepted + length w.refused + length os
  all_counted w [] = omega arith
  all_counted w (o ∷ os) = omega (arith, all_counted (walk_on set s w o) os, one_sorted w o (refusal set s o w.found))

-- ---- one more pair of the table
module _ {S F E : Type 0} (does : S → Event F → S → Type 0) (fails : S → Call F → E → S → Type 0) (set : Shape → Bool) (ps : List Point) (fs : List Face) where
  module _ (pairs : List Pair) (i : ℕ) (d : Pair) (o : Offering) (here : i < length pairs) (at : o ≡ offering_of (get_or pairs i d)) where
    abbrev before : List Offering
    before = map offering_of (take i pairs)

    more : before ++ (o ∷ []) ≡ map offering_of (take (i + 1) pairs)
    more =
        ap (λ o. before ++ (o ∷ [])) at
        ∙ sym (ap (map offering_of) (take_more pairs i d here) ∙ map-append offering_of (take i pairs) (get_or pairs i d ∷ []))

    split : map offering_of pairs ≡ before ++ (o ∷ map offering_of (drop (i + 1) pairs))
    split =
        ap (map offering_of) (sym (take-append-drop i pairs)) ∙ map-append offering_of (take i pairs) (drop i pairs) ∙ at_drop_more (λ l. before ++ map offering_of l) pairs i d here
        ∙ ap (λ o. before ++ (o ∷ map offering_of (drop (i + 1) pairs))) (sym at)

    pub one_more : (s t u : State) (h j k : S) → Offers {X = Unit {0}} does fails set ps fs before s t h (Ok tt) j → Offers {X = Unit {0}} does fails set ps fs (o ∷ []) t u j (Ok tt) k
        → Offers {X = Unit {0}} does fails set ps fs (map offering_of (take (i + 1) pairs)) s u h (Ok tt) k
    one_more s t u h j k first second =
        subst (λ os. Offers {X = Unit {0}} does fails set ps fs os s u h (Ok tt) k) more (offers_then does fails set ps fs before (o ∷ []) s t u h j k (Ok tt) first second)

    pub cut_at : (s t u v : State) (h j k : S) (e : E) (r : Result (Unit {0}) E) → r ≡ Err e → Offers {X = Unit {0}} does fails set ps fs before s t h (Ok tt) j
        → Offers {X = Unit {0}} does fails set ps fs (o ∷ []) t u j (Err e) k → Offers does fails set ps fs (map offering_of pairs) s v h r k
    cut_at s t u v h j k e r failed =
        offers_short does fails set ps fs before (map offering_of (drop (i + 1) pairs)) (map offering_of pairs) o s t u v h j k e r failed split

-- ---- from its opening on
module _ {S F E : Type 0} (does : S → Event F → S → Type 0) (fails : S → Call F → E → S → Type 0) (d : Draft) (ps : List Point) (fs : List Face) (pairs : List Pair)
    (s t : State) (h m : S) (begun : Begins d s) (points : d.points ≤ length ps) (faces : d.faces ≤ length fs) where
  abbrev os : List Offering
  os = map offering_of pairs

  abbrev sheet : Sheet
  sheet = sheet_in d ps fs

  start : Made delivered d ps fs (just_opened d) s
  unfolding Begins
  start = begun ps fs (λ i. le-ltb (length ps) d.points points i || le-ltb (length fs) d.faces faces i)

  abbrev Refusals : List Written
  Refusals = refusals_written delivered sheet (just_opened d) os

  abbrev report : List ℕ
  report = let found = (walk_over d sheet os).found in report_text (record { set = delivered; core = found.core; sheet = sheet }) found.entries

  pub offered_in_part : (e : E) (r : Result ℕ E) → Offers {X = Unit {0}} does fails delivered ps fs os s t h (Err e) m → r ≡ Err e → InspectsRows does fails d ps fs os h r m
  unfolding Offers InspectsRows
  offered_in_part e r offers is = written_short does fails (RowsEnd d sheet os) h m Refusals (printing report) e r (offers d (just_opened d) start) is

  module _ (offers : Offers {X = Unit {0}} does fails delivered ps fs os s t h (Ok tt) m) where
    made : Made delivered d ps fs (walk_over d sheet os) t
    unfolding Offers
    made = (offers d (just_opened d) start).good.answer

    pub reportable : Reportable t.core.draft ps fs (entries_of t.lists)
    reportable = no_faults t.core.draft ps fs (entries_of t.lists) made.rows made.vf.inside made.ee.inside

    same_report : report_in ps fs t ≡ report
    same_report = λ i. report_text (record { set = delivered; core = (made.found i).core; sheet = sheet_in (made.draft i) ps fs }) (made.found i).entries

    counted : t.core.accepted + length (walk_over d sheet os).refused ≡ length pairs
    counted = omega (arith, ap (λ (f : Found). f.core.accepted) made.found, all_counted delivered sheet (just_opened d) os, length-map pairs offering_of)

    pub few_accepted : t.core.accepted ≤ length pairs
    few_accepted = omega (arith, counted)

    whole : (Q : ℕ → Type 0) (r : Result ℕ E) (k : S) → WritesSo does fails (printing (report_in ps fs t)) Q m r k → WritesSo does fails (rows_written d sheet os) Q h r k
    unfolding Offers
    whole Q r k print =
        written_then does fails (λ (x : Unit {0}). Made delivered d ps fs (walk_over d sheet os) t) Q h m k Refusals (printing report) tt r (offers d (just_opened d) start)
        (subst (λ text. WritesSo does fails (printing text) Q m r k) same_report print)

    pub unreported : (k : S) (e : E) (r : Result ℕ E) → Prints {X = Ending} does fails (report_in ps fs t) m (Err e) k → r ≡ Err e → InspectsRows does fails d ps fs os h r k
    unfolding InspectsRows
    unreported k e r print is = subst (λ r. WritesSo does fails (rows_written d sheet os) (RowsEnd d sheet os) h r k) (sym is) (whole (RowsEnd d sheet os) (Err e) k print)

    pub reported : (k : S) (x : Ending) (n : ℕ) → Prints {X = Ending} does fails (report_in ps fs t) m (Ok x) k → Findings delivered t → n ≡ length pairs - t.core.accepted → InspectsRows does fails d ps fs os h (Ok n) k
    unfolding InspectsRows
    reported k x n print findings is =
        whole (RowsEnd d sheet os) (Ok n) k
        (record {
          events = print.events;
          went = print.went;
          good = record {
            no_read = print.good.no_read;
            whole = print.good.whole;
            answer = record {
              refused = omega (arith, counted, is);
              claim = subst (λ (k : Draft × Sheet × Found). WholeClaim delivered k.0 k.1 (walk_over d sheet os).accepted k.2.core k.2.entries.vf k.2.entries.ee)
                  (λ i. (made.draft i, sheet_in (made.draft i) ps fs, made.found i))
                  (findings t.core.draft (sheet_in t.core.draft ps fs) (walk_over d sheet os).accepted [] made.run);
            };
          };
        })
