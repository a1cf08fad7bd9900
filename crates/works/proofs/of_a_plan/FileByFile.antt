-- A run over a host: a plan is read, and then its fault is told, or its pairs are offered and reported.
use Rattle.std.proofs.Common.{◌≡◌, ◌↔◌, ℕ, false, All, List, [], ◌∷◌, ◌++◌, take, replicate, flat_map, Some, None, Option, Ok, Err, Result, refl, sym, ap, ◌∙◌, subst, append-nil, append_assoc}
use Rattle.std.proofs.lemmas.List.Concat.{flat_map-append}
use Rattle.std.proofs.lemmas.List.Elements.{All-cons, All-nil, All-head, All-tail, All-replicate}
use Rattle.hosts.specs.Events.{Event, Call, Reading, files_read, file_read_by, printed, stored, bytes_came, unread}
use Rattle.hosts.specs.Works.{IsFront, unless_found}
use Rattle.hosts.specs.Writing.{Written, written, written_by as written_by_event, printing, storing, output_by, store_by, output_in, store_in, Writes}
use Rattle.hosts.proofs.Continuing.{worked_after}
use Rattle.hosts.proofs.Fronts.{whole, front_of, front_longer, front_each}
use Rattle.hosts.proofs.Histories.{not_came, came_before, asked_before, came_behind, asked_behind, reads_before, not_read, never_reads}
use Rattle.hosts.proofs.Writing.{output-printing, store-printing, output-storing, store-storing, printed-written, stored-written}
use Rattle.sheet.specs.declared.drafts.Draft.{Draft}
use Rattle.sheet.specs.declared.notices.Notice.{Notice}
use Rattle.sheet.specs.declared.rows.Point.{Point}
use Rattle.sheet.specs.declared.rows.Face.{Face}
use Rattle.motion.specs.Rows.{delivered}
use Rattle.plan.specs.Notices.{notice_line}
use Rattle.plan.specs.PairBytes.{pair_bytes, offerings_in}
use Rattle.plan.specs.Plans.{Plan, same_plan_file, ReadsPlan, FitsFile, draft, sheet, sheet_fault, fault, needed_files}
use Rattle.plan.specs.inner.ReadFiles.{NotRead}
use Rattle.plan.specs.Reading.{HoldsPlan, PlanRead}
use Rattle.plan.specs.declared.endings.Ending.{Ending}
use Rattle.plan.specs.declared.endings.Ending.TheVariants.{Complete, Faulty}
use Rattle.plan.specs.declared.plan_files.PlanFile.{PlanFile}
use Rattle.plan.specs.declared.plan_files.PlanFile.TheVariants.{Pairs, Sheet, Step}
use Rattle.works.specs.inspect.Outcomes.{EndsWith, StopsWith, Inspects}
use Rattle.works.specs.inspect.Plans.{walk, report_of, printout, printout_by, plan_written_by, plan_written, all_needed, ClaimOfPlan}
use Rattle.works.specs.inspect.inner.Progress.{InspectsFile}
use Rattle.works.specs.inspect.Settled.{SettlesPlan}
use Rattle.works.specs.inspect.Walks.{Refusal, refusal_written, just_opened, walked}
use Rattle.works.proofs.of_a_plan.Settling.{settled_plan}

-- ---- what is printed and stored of the pairs that are refused
output_refused : (rs : List Refusal) → output_in (flat_map refusal_written rs) ≡ flat_map (λ r. notice_line r.why) rs
output_refused [] = refl
output_refused (r ∷ rs) =
    flat_map-append output_by (refusal_written r) (flat_map refusal_written rs)
    ∙ (λ i. (flat_map-append output_by (printing (notice_line r.why)) (storing (pair_bytes r.pair)) ∙ (λ j. output-printing (notice_line r.why) j ++ output-storing (pair_bytes r.pair) j) ∙ append-nil (notice_line r.why)) i ++ output_refused rs i)

store_refused : (rs : List Refusal) → store_in (flat_map refusal_written rs) ≡ flat_map (λ r. pair_bytes r.pair) rs
store_refused [] = refl
store_refused (r ∷ rs) =
    flat_map-append store_by (refusal_written r) (flat_map refusal_written rs)
    ∙ (λ i. (flat_map-append store_by (printing (notice_line r.why)) (storing (pair_bytes r.pair)) ∙ (λ j. store-printing (notice_line r.why) j ++ store-storing (pair_bytes r.pair) j)) i ++ store_refused rs i)

-- ---- a whole run to its end, and one that a call stops
module _ (p : Plan) where
  output : (n : Option Notice) → output_in (plan_written_by p n) ≡ (printout_by p n).text
  output (Some n) = output-printing (notice_line n)
  output None =
      let report = report_of p (walk p).found in
      flat_map-append output_by (flat_map refusal_written (walk p).refused) (printing report) ∙ (λ i. output_refused (walk p).refused i ++ output-printing report i)

  store : (n : Option Notice) → store_in (plan_written_by p n) ≡ (printout_by p n).stored
  store (Some n) = store-printing (notice_line n)
  store None =
      let report = report_of p (walk p).found in
      flat_map-append store_by (flat_map refusal_written (walk p).refused) (printing report) ∙ (λ i. store_refused (walk p).refused i ++ store-printing report i)
      ∙ append-nil (printout_by p None).stored

  complete_if : (end : Ending) (n : Option Notice) → fault p ≡ n → end ≡ (printout_by p n).ending → (end ≡ Complete) ↔ (fault p ≡ None)
  complete_if end (Some n) is ending = (λ c. let e : Faulty n ≡ Complete = sym ending ∙ c in cc, λ none. let e : Some n ≡ None = sym is ∙ none in cc)
  complete_if end None is ending = (λ c. is, λ none. ending)

  ends : (es : List (Event PlanFile)) (end : Ending) (n : Option Notice) → fault p ≡ n → end ≡ (printout_by p n).ending → written es ≡ plan_written p
      → (pieces : ℕ) → files_read es ≡ all_needed p pieces → ClaimOfPlan p → EndsWith p es end
  ends es end n is ending all pieces files claim =
      let text : printed es ≡ (printout p).text = printed-written es ∙ ap output_in all ∙ output (fault p) in
      let stored_all : stored es ≡ (printout p).stored = stored-written es ∙ ap store_in all ∙ store (fault p) in
      let complete = complete_if end n is ending in
      record {
        settles = λ done. subst (λ (t : List ℕ × List ℕ). SettlesPlan p t.0 t.1) (λ i. (sym text i, sym stored_all i)) (settled_plan p (complete.0 done) claim);
        text = text;
        stored = stored_all;
        ending = ending ∙ ap (λ n. (printout_by p n).ending) (sym is);
        complete = complete;
        pieces = pieces;
        files = files;
        claim = claim;
      }

  stops : (es : List (Event PlanFile)) (call : Call PlanFile) → IsFront (written es) (plan_written p) → (pieces : ℕ) → IsFront (files_read es ++ unread call) (all_needed p pieces)
      → ((f : PlanFile) → call ≡ Reading f → written es ≡ flat_map refusal_written (walked delivered (sheet p) (just_opened (draft p)) (offerings_in (bytes_came (same_plan_file Pairs) es))).refused)
      → StopsWith p es call
  stops es call part pieces files all =
      record {
        text = subst (λ (t : List ℕ × List ℕ). IsFront t.0 t.1) (λ i. (sym (printed-written es) i, output (fault p) i)) (front_each output_by (written es) (plan_written p) part);
        stored = subst (λ (t : List ℕ × List ℕ). IsFront t.0 t.1) (λ i. (sym (stored-written es) i, store (fault p) i)) (front_each store_by (written es) (plan_written p) part);
        pieces = pieces;
        files = files;
        told = λ f same. printed-written es ∙ ap output_in (all f same) ∙ output_refused (walked delivered (sheet p) (just_opened (draft p)) (offerings_in (bytes_came (same_plan_file Pairs) es))).refused;
      }

  -- the pairs are not read with the sheet and the step
  no_pairs : All (λ g. same_plan_file Pairs g ≡ false) (needed_files p)
  no_pairs = All-cons (λ g. same_plan_file Pairs g ≡ false) Sheet (unless_found (sheet_fault p) (Step ∷ [])) refl (by (sheet_fault p))
    where
      by : (n : Option Notice) → All (λ g. same_plan_file Pairs g ≡ false) (unless_found n (Step ∷ []))
      by (Some n) = All-nil (λ g. same_plan_file Pairs g ≡ false)
      by None = All-cons (λ g. same_plan_file Pairs g ≡ false) Step [] refl (All-nil (λ g. same_plan_file Pairs g ≡ false))

-- ---- events behind others
front_all : {X : Type 0} (P : X → Type 0) (xs ys : List X) → All P (xs ++ ys) → All P xs
front_all P [] ys all = All-nil P
front_all P (x ∷ xs) ys all = All-cons P x xs (All-head P x (xs ++ ys) all) (front_all P xs ys (All-tail P x (xs ++ ys) all))

only_pairs : (f : PlanFile) → same_plan_file f Pairs ≡ false → (es : List (Event PlanFile)) (call : List PlanFile) (n : ℕ) → files_read es ++ call ≡ replicate n Pairs → NotRead f es
only_pairs f other es call n is =
    front_all (λ g. same_plan_file f g ≡ false) (files_read es) call (subst (All (λ g. same_plan_file f g ≡ false)) (sym is) (All-replicate (λ g. same_plan_file f g ≡ false) n Pairs other))

fits_before : (f : PlanFile) (bytes : List ℕ) (reads es : List (Event PlanFile)) → NotRead f es → FitsFile f bytes (reads ++ es) → FitsFile f bytes reads
fits_before f bytes reads es none fits = sym (came_before (same_plan_file f) reads es none) ∙ fits ∙ ap (λ n. take n bytes) (asked_before (same_plan_file f) reads es none)

fits_behind : (f : PlanFile) (bytes : List ℕ) (reads es : List (Event PlanFile)) → NotRead f reads → FitsFile f bytes (reads ++ es) → FitsFile f bytes es
fits_behind f bytes reads es none fits = sym (came_behind (same_plan_file f) reads es none) ∙ fits ∙ ap (λ n. take n bytes) (asked_behind (same_plan_file f) reads es none)

behind : (reads es : List (Event PlanFile)) → written reads ≡ [] → written (reads ++ es) ≡ written es
behind reads es none = flat_map-append written_by_event reads es ∙ ap (λ l. l ++ written es) none

-- of a plan whose sheet and step were read before
record Known (d : Draft) (ps : List Point) (fs : List Face) (p : Plan) (reads es : List (Event PlanFile)) : Type 0 where
  holds : HoldsPlan p d ps fs
  files : files_read reads ≡ needed_files p
  none : NotRead Pairs reads
  pairs : FitsFile Pairs p.pairs es

-- ---- in the words of the calls
module _ {S E : Type 0} (does : S → Event PlanFile → S → Type 0) (fails : S → Call PlanFile → E → S → Type 0) (ps : List Point) (fs : List Face) (s t : S) where
  -- a file can't be read
  pub unread_plan : (e : E) (r : Result Ending E) → PlanRead does fails ps fs s (Err e) t → r ≡ Err e → Inspects does fails s r t
  unfolding PlanRead Inspects
  unread_plan e r read is =
      rw is
      (record {
        events = read.events;
        call = read.call;
        before = read.before;
        went = read.went;
        failed = read.failed;
        part = λ p h.
            let es = read.events in
            let front = read.part.files p h in
            let none = front_all (λ g. same_plan_file Pairs g ≡ false) (files_read es) (unread read.call)
            (front_all (λ g. same_plan_file Pairs g ≡ false) (files_read es ++ unread read.call) front.rest (subst (All (λ g. same_plan_file Pairs g ≡ false)) front.split (no_pairs p))) in
            stops p es read.call (front_of (written es) (plan_written p) (plan_written p) (ap (λ l. l ++ plan_written p) (sym read.part.reads_only))) 0
            (front_longer (files_read es ++ unread read.call) (needed_files p) (unless_found (fault p) []) front)
            (λ f same. read.part.reads_only
            ∙ ap (λ bytes. flat_map refusal_written (walked delivered (sheet p) (just_opened (draft p)) (offerings_in bytes)).refused) (sym (not_came (same_plan_file Pairs) es none)));
      })

  module _ (u : S) (r : Result Ending E) where
    -- it has a fault, which is told
    pub faulty_plan : (n : Notice) → PlanRead does fails ps fs s (Ok (Err n)) t → Writes does fails (printing (notice_line n)) (Faulty n) t r u → Inspects does fails s r u
    unfolding PlanRead Inspects
    faulty_plan n read =
        worked_after does fails _ (λ es end. (p : Plan) → ReadsPlan p es → EndsWith p es end) _ (λ es call. (p : Plan) → ReadsPlan p es → StopsWith p es call) s t u read.events r read.went
        (λ es end w p h.
        let no_read = append-nil (files_read es) ∙ w.no_read in
        let k = known es [] no_read p h in
        ends p (read.events ++ es) end (Some n) k.0 w.answer (behind read.events es read.good.reads_only ∙ w.whole ∙ sym (ap (plan_written_by p) k.0)) 0
        (sym (append-nil (files_read (read.events ++ es))) ∙ reads_before read.events es [] no_read ∙ all_files p k) (λ none. let e : Some n ≡ None = sym k.0 ∙ none in cc))
        (λ es call w p h.
        let k = known es (unread call) w.no_read p h in
        stops p (read.events ++ es) call (subst (λ (l : List Written × List Written). IsFront l.0 l.1) (λ i. (sym (behind read.events es read.good.reads_only) i, plan_written_by p (sym k.0 i))) w.part) 0
        (subst (λ l. IsFront l (all_needed p 0)) (sym (reads_before read.events es (unread call) w.no_read ∙ all_files p k)) (whole (all_needed p 0)))
        (λ f same. absurd (never_reads es call f w.no_read same)))
      where
        known : (es : List (Event PlanFile)) (call : List PlanFile) → files_read es ++ call ≡ [] → (p : Plan) → ReadsPlan p (read.events ++ es) → (fault p ≡ Some n) × (files_read read.events ≡ needed_files p)
        known es call none p h =
            read.good.says p (fits_before Sheet p.sheet read.events es (not_read (same_plan_file Sheet) es call none) (h Sheet)) (fits_before Step p.step read.events es (not_read (same_plan_file Step) es call none) (h Step))

        all_files : (p : Plan) → (fault p ≡ Some n) × (files_read read.events ≡ needed_files p) → files_read read.events ≡ all_needed p 0
        all_files p (is, files) = files ∙ sym (append-nil (needed_files p)) ∙ ap (λ o. needed_files p ++ unless_found o []) (sym is)

    -- the tables hold it
    pub accepted_plan : (d : Draft) → PlanRead does fails ps fs s (Ok (Ok d)) t → InspectsFile does fails d ps fs t r u → Inspects does fails s r u
    unfolding PlanRead InspectsFile Inspects
    accepted_plan d read =
        worked_after does fails _ (λ es end. (p : Plan) → ReadsPlan p es → EndsWith p es end) _ (λ es call. (p : Plan) → ReadsPlan p es → StopsWith p es call) s t u read.events r read.went
        (λ es end g p h.
        let k = known es [] g.pieces (append-nil (files_read es) ∙ g.files) p h in
        ends p (read.events ++ es) end None k.holds.no_fault g.ending (behind read.events es read.good.reads_only ∙ g.all p k.holds k.pairs) g.pieces
        (flat_map-append file_read_by read.events es ∙ (λ i. k.files i ++ g.files i) ∙ ap (λ o. needed_files p ++ unless_found o (replicate g.pieces Pairs)) (sym k.holds.no_fault)) (g.claim p k.holds k.pairs))
        (λ es call g p h.
        let k = known es (unread call) g.pieces g.files p h in
        stops p (read.events ++ es) call (subst (λ l. IsFront l (plan_written p)) (sym (behind read.events es read.good.reads_only)) (g.part p k.holds k.pairs)) g.pieces
        (subst (λ l. IsFront l (all_needed p g.pieces))
        (sym (ap (λ l. l ++ unread call) (flat_map-append file_read_by read.events es) ∙ append_assoc (files_read read.events) (files_read es) (unread call) ∙ (λ i. k.files i ++ g.files i)
        ∙ ap (λ o. needed_files p ++ unless_found o (replicate g.pieces Pairs)) (sym k.holds.no_fault)))
        (whole (all_needed p g.pieces)))
        (λ f same. behind read.events es read.good.reads_only ∙ g.all f same p k.holds
        ∙ ap (λ bytes. flat_map refusal_written (walked delivered (sheet p) (just_opened (draft p)) (offerings_in bytes)).refused) (sym (came_behind (same_plan_file Pairs) read.events es k.none))))
      where
        known : (es : List (Event PlanFile)) (call : List PlanFile) (n : ℕ) → files_read es ++ call ≡ replicate n Pairs → (p : Plan) → ReadsPlan p (read.events ++ es) → Known d ps fs p read.events es
        known es call n only p h =
            let k = read.good.says p (fits_before Sheet p.sheet read.events es (only_pairs Sheet refl es call n only) (h Sheet)) (fits_before Step p.step read.events es (only_pairs Step refl es call n only) (h Step)) in
            let none = subst (All (λ g. same_plan_file Pairs g ≡ false)) (sym k.1) (no_pairs p) in
            record { holds = k.0.0; files = k.1; none = none; pairs = fits_behind Pairs p.pairs read.events es none (h Pairs) }
