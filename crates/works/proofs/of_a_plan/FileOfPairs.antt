-- The pairs of a plan's file: they are offered piece by piece, and then what is found is reported.
use Rattle.std.proofs.Common.{◌≡◌, ℕ, ◌+◌, ◌-◌, ◌*◌, ◌/◌, ◌%◌, ◌≤◌, ◌<◌, Bool, true, nat_lt, List, [], ◌∷◌, ◌++◌, All, length, take, drop, flat_map, Ok, Err, Result, refl, sym, ap, ◌∙◌, subst, arith, append-nil, append_assoc, length-append, length-take, not, IsTrue, ◌||◌, if◌then◌else◌, replicate, Some, None, IfOk, IsFalse, false}
use Rattle.sheet.specs.declared.notices.Layer.TheVariants as layer
use Rattle.std.proofs.lemmas.Bool.{le-ltb, ltb-true, ltb-false}
use Rattle.std.proofs.lemmas.List.{take_all, take-append-drop, replicate-append-replicate}
use Rattle.std.proofs.lemmas.List.Concat.{flat_map-append}
use Rattle.std.proofs.lemmas.List.Elements.{All-nil, All-head, All-tail, All-take}
use Rattle.std.proofs.lemmas.List.Sums.{sum_by-append, sum_by-cons, fold-append}
use Rattle.hosts.specs.Events.{Event, Read, Call, Reading, files_read, file_read_by, bytes_asked, bytes_came, asked_by, came_by, unread}
use Rattle.hosts.specs.Traces.{nothing, next}
use Rattle.hosts.specs.Works.{IsFront, Worked}
use Rattle.hosts.specs.Writing.{Written, written, written_by, printing, Prints}
use Rattle.hosts.proofs.Fronts.{whole, front_of, front_of_front, front_behind}
use Rattle.hosts.proofs.Histories.{came_before, asked_before, reads_before, not_read, never_reads}
use Rattle.hosts.proofs.Continuing.{worked_after}
use Rattle.hosts.proofs.Writing.{written_with}
use Rattle.sheet.specs.Checks.{first_fit, check}
use Rattle.sheet.specs.declared.drafts.Draft.{Draft}
use Rattle.sheet.specs.declared.rows.Point.{Point}
use Rattle.sheet.specs.declared.rows.Face.{Face}
use Rattle.sheet.proofs.FirstFit.{past}
use Rattle.motion.specs.Rows.{delivered}
use Rattle.motion.specs.declared.shapes.Kind.{Kind}
use Rattle.motion.specs.declared.shapes.Kind.TheVariants.{Vf, Ee}
use Rattle.motion.specs.declared.shapes.Shape.{Shape}
use Rattle.inspection.specs.Claims.{WholeClaim, Findings}
use Rattle.inspection.specs.Lists.{Contents}
use Rattle.inspection.specs.Offers.{lacks_rows}
use Rattle.inspection.specs.Runs.{Accepted, Opened, opened}
use Rattle.inspection.specs.Sheets.{sheet_in, Sheet}
use Rattle.inspection.specs.States.{State, Entries, entries_of, core_at_start}
use Rattle.inspection.specs.Tests.{Naming, vf_naming, ee_naming}
use Rattle.inspection.specs.declared.offerings.Offering.{Offering}
use Rattle.inspection.specs.declared.offerings.Offering.TheVariants.{Faces}
use Rattle.report.specs.Faults.{place_of}
use Rattle.report.specs.Reports.{View, checks_from, entry_checks, entry_limit, list_checks, numbered_entries, report_text}
use Rattle.plan.specs.Plans.{Plan, same_plan_file, FitsFile, draft, sheet}
use Rattle.plan.specs.inner.ReadFiles.{NotRead}
use Rattle.plan.specs.Reading.{HoldsPlan}
use Rattle.plan.specs.PairBytes.{number_of, offerings_in}
use Rattle.works.specs.inspect.Plans.{walk, report_of, plan_written_by as written_unless, plan_written, ClaimOfPlan}
use Rattle.works.specs.inspect.inner.Progress.{pairs_came, IsFull, IsWhole, PiecesOffered, PiecesOfferedInPart, OffersPieces, Listed, found_in, Made, Begins, Reportable, Offers, PairsInspected, PairsInspectedInPart, InspectsFile}
use Rattle.works.specs.inspect.Walks.{Walk, Found, depth, room, refusal_written, just_opened, walk_on, walked, refusals_written}
use Rattle.plan.specs.declared.endings.Ending.{Ending}
use Rattle.plan.specs.declared.endings.Ending.TheVariants.{Complete}
use Rattle.plan.specs.declared.plan_files.PlanFile.{PlanFile}
use Rattle.plan.specs.declared.plan_files.PlanFile.TheVariants.{Pairs}
use Rattle.works.proofs.of_a_plan.Sorting as sorting

-- whole pairs, and then others
offerings_in-append : (n : ℕ) (xs ys : List ℕ) → length xs ≡ 4 * n → offerings_in (xs ++ ys) ≡ offerings_in xs ++ offerings_in ys
offerings_in-append n [] ys e = refl
offerings_in-append n (a ∷ b ∷ c ∷ d ∷ xs) ys e = ap (λ os. Faces (number_of a b) (number_of c d) ∷ os) (offerings_in-append (n - 1) xs ys (omega arith))
offerings_in-append n xs ys e = absurd (omega arith)

whole_pairs : (xs ys : List ℕ) → length xs % 4 ≡ 0 → offerings_in (xs ++ ys) ≡ offerings_in xs ++ offerings_in ys
whole_pairs xs ys e = offerings_in-append (length xs / 4) xs ys (omega arith)

-- what reads nothing reads no pairs
no_pairs : (gs : List (Event PlanFile)) (call : List PlanFile) → files_read gs ++ call ≡ [] → NotRead Pairs gs
no_pairs gs call none = not_read (same_plan_file Pairs) gs call none

no_reads : (es gs : List (Event PlanFile)) → files_read gs ≡ [] → files_read (es ++ gs) ≡ files_read es
no_reads es gs none = flat_map-append file_read_by es gs ∙ ap (λ l. files_read es ++ l) none ∙ append-nil (files_read es)

-- the pairs that came are the first of the file's
first_full : (es : List (Event PlanFile)) (bytes : List ℕ) → IsFull es → FitsFile Pairs bytes es → IsFront (pairs_came es) (offerings_in bytes)
first_full es bytes full fits =
    let later = drop (bytes_asked (same_plan_file Pairs) es) bytes in
    front_of (pairs_came es) (offerings_in later) (offerings_in bytes)
    (ap offerings_in (sym (take-append-drop (bytes_asked (same_plan_file Pairs) es) bytes) ∙ ap (λ l. l ++ later) (sym fits)) ∙ whole_pairs (bytes_came (same_plan_file Pairs) es) later full.whole)

-- ---- a piece is read after full ones, and then nothing
abbrev reading : ℕ → List ℕ → List (Event PlanFile)
reading size chunk = Read Pairs size chunk ∷ []

module _ (es gs : List (Event PlanFile)) (size : ℕ) (chunk : List ℕ) (full : IsFull es) (whole_size : size % 4 ≡ 0) (none : NotRead Pairs gs) where
  abbrev read : List (Event PlanFile)
  read = reading size chunk

  abbrev all : List (Event PlanFile)
  all = (es ++ read) ++ gs

  all_came : bytes_came (same_plan_file Pairs) all ≡ bytes_came (same_plan_file Pairs) es ++ chunk
  all_came = came_before (same_plan_file Pairs) (es ++ read) gs none ∙ flat_map-append (came_by (same_plan_file Pairs)) es read ∙ ap (λ l. bytes_came (same_plan_file Pairs) es ++ l) (append-nil chunk)

  count : length (bytes_came (same_plan_file Pairs) all) ≡ length (bytes_came (same_plan_file Pairs) es) + length chunk
  count = ap length all_came ∙ length-append (bytes_came (same_plan_file Pairs) es) chunk

  all_asked : bytes_asked (same_plan_file Pairs) all ≡ bytes_asked (same_plan_file Pairs) es + size
  all_asked = omega (arith, asked_before (same_plan_file Pairs) (es ++ read) gs none, sum_by-append (asked_by (same_plan_file Pairs)) es read, sum_by-cons (asked_by (same_plan_file Pairs)) (Read Pairs size chunk) [])

  all_pairs : pairs_came all ≡ pairs_came es ++ offerings_in chunk
  all_pairs = ap offerings_in all_came ∙ whole_pairs (bytes_came (same_plan_file Pairs) es) chunk full.whole

  pub is_full : length chunk ≡ size → IsFull all
  is_full same = record { count = omega (arith, count, all_asked, full.count, same); whole = omega (arith, count, full.whole, whole_size, same) }

  pub is_whole : length chunk < size → IsWhole all
  is_whole less =
      record {
        whole = λ bytes fits.
            let n = bytes_asked (same_plan_file Pairs) all in
            sym (take_all n bytes (omega (arith, ap length fits, length-take n bytes, count, all_asked, full.count, less))) ∙ sym fits;
      }

  first_pairs : length chunk ≤ size → (bytes : List ℕ) → FitsFile Pairs bytes all → IsFront (pairs_came all) (offerings_in bytes)
  first_pairs few bytes fits = by (nat_lt (length chunk) size) refl
    where
      by : (b : Bool) → nat_lt (length chunk) size ≡ b → IsFront (pairs_came all) (offerings_in bytes)
      by true less = subst (λ l. IsFront (pairs_came all) (offerings_in l)) (sym ((is_whole (ltb-true (length chunk) size less)).whole bytes fits)) (whole (pairs_came all))
      by false full = first_full all bytes (is_full (omega (arith, few, ltb-false (length chunk) size full))) fits

-- ---- in the words of the calls
module _ {S E : Type 0} (does : S → Event PlanFile → S → Type 0) (fails : S → Call PlanFile → E → S → Type 0)
    (set : Shape → Bool) (ps : List Point) (fs : List Face) where
  pub begun : (s : State) (h : S) → OffersPieces {X = Unit {0}} does fails IsFull set ps fs s s h (Ok tt) h
  unfolding OffersPieces
  begun s h d w m =
      record {
        events = [];
        went = nothing;
        good = record { pieces = 0; files = refl; came = record { count = refl; whole = refl }; all = sym (sorting.none_written set (sheet_in d ps fs) w); made = m };
      }

  -- a piece can't be read
  pub unread_piece : (s t u : State) (h i j : S) (e : E) (r : Result (Unit {0}) E) → r ≡ Err e
      → OffersPieces {X = Unit {0}} does fails IsFull set ps fs s t h (Ok tt) i → fails i (Reading Pairs) e j → OffersPieces does fails IsWhole set ps fs s u h r j
  unfolding OffersPieces
  unread_piece s t u h i j e r is going failed d w m =
      let a = going d w m in
      let g = a.good in
      subst (λ r. Worked does fails (PiecesOffered set d ps fs w IsWhole u) (PiecesOfferedInPart set d ps fs w) h r j) (sym is)
      (record {
        events = a.events;
        call = Reading Pairs;
        before = i;
        went = a.went;
        failed = failed;
        part = record {
          pieces = g.pieces + 1;
          files = ap (λ l. l ++ (Pairs ∷ [])) g.files ∙ replicate-append-replicate g.pieces 1 Pairs;
          first = λ bytes fits. first_full a.events bytes g.came fits;
          part = subst (λ l. IsFront (written a.events) l) g.all (whole (written a.events));
          all = λ f same. g.all;
        };
      })

  -- a piece is read, and its pairs are offered
  module _ (s t u : State) (h i j k : S) (size n : ℕ) (chunk buf : List ℕ) (going : OffersPieces {X = Unit {0}} does fails IsFull set ps fs s t h (Ok tt) i) (did : does i (Read Pairs size chunk) j) (is_front : chunk ≡ take n buf) (whole_size : size % 4 ≡ 0) (few : n ≤ size)
      (room : length buf ≡ size) where
    count_of : length chunk ≡ n
    count_of = omega (arith, ap length is_front, length-take n buf, few, room)

    piece : (Came : List (Event PlanFile) → Type 0) → ((es gs : List (Event PlanFile)) → IsFull es → NotRead Pairs gs → Came ((es ++ reading size chunk) ++ gs))
        → (r : Result (Unit {0}) E) → Offers does fails set ps fs (offerings_in chunk) t u j r k → OffersPieces does fails Came set ps fs s u h r k
    unfolding Offers OffersPieces
    piece Came has r offers d w m =
        let sheet = sheet_in d ps fs in
        let a = going d w m in
        let g = a.good in
        let v = walked set sheet w (pairs_came a.events) in
        let reads = a.events ++ reading size chunk in
        let before : files_read reads ≡ replicate (g.pieces + 1) Pairs = flat_map-append file_read_by a.events (reading size chunk) ∙ ap (λ l. l ++ (Pairs ∷ [])) g.files ∙ replicate-append-replicate g.pieces 1 Pairs in
        let so_far : written reads ≡ refusals_written set sheet w (pairs_came a.events) = flat_map-append written_by a.events (reading size chunk) ∙ append-nil (written a.events) ∙ g.all in
        worked_after does fails _ (PiecesOffered set d ps fs w Came u) _ (PiecesOfferedInPart set d ps fs w) h j k reads r (next (Read Pairs size chunk) a.went did)
        (λ gs x o.
        let none = no_pairs gs [] (append-nil (files_read gs) ∙ o.no_read) in
        let pairs = all_pairs a.events gs size chunk g.came whole_size none in
        record {
          pieces = g.pieces + 1;
          files = no_reads reads gs o.no_read ∙ before;
          came = has a.events gs g.came none;
          all =
              flat_map-append written_by reads gs ∙ (λ i. so_far i ++ o.whole i) ∙ sym (sorting.written_then set sheet w (pairs_came a.events) (offerings_in chunk))
              ∙ ap (refusals_written set sheet w) (sym pairs);
          made = subst (λ (v : Walk). Made set d ps fs v u) (sym (ap (walked set sheet w) pairs ∙ fold-append (walk_on set sheet) w (pairs_came a.events) (offerings_in chunk))) o.answer;
        })
        (λ gs call o.
        let none = no_pairs gs (unread call) o.no_read in
        let pairs = all_pairs a.events gs size chunk g.came whole_size none in
        record {
          pieces = g.pieces + 1;
          files = reads_before reads gs (unread call) o.no_read ∙ before;
          first = λ bytes fits. first_pairs a.events gs size chunk g.came whole_size none (omega (arith, count_of, few)) bytes fits;
          part = subst (λ (l : List Written × List Written). IsFront l.0 l.1)
              (λ i. (
                (ap (λ l. l ++ written gs) (sym so_far) ∙ sym (flat_map-append written_by reads gs)) i,
                (sym (sorting.written_then set sheet w (pairs_came a.events) (offerings_in chunk)) ∙ ap (refusals_written set sheet w) (sym pairs)) i,
              ))
              (front_behind (refusals_written set sheet w (pairs_came a.events)) (written gs) (refusals_written set sheet v (offerings_in chunk)) o.part);
          all = λ f same. absurd (never_reads gs call f o.no_read same);
        })
        (offers d v g.made)

    pub full_piece : length buf ≤ n → Offers {X = Unit {0}} does fails set ps fs (offerings_in chunk) t u j (Ok tt) k → OffersPieces {X = Unit {0}} does fails IsFull set ps fs s u h (Ok tt) k
    full_piece most = piece IsFull (λ es gs full none. is_full es gs size chunk full whole_size none (omega (arith, count_of, few, room, most))) (Ok tt)

    pub last_piece : n < length buf → Offers {X = Unit {0}} does fails set ps fs (offerings_in chunk) t u j (Ok tt) k → (r : Result (Unit {0}) E) → r ≡ Ok tt → OffersPieces does fails IsWhole set ps fs s u h r k
    last_piece less offers r is = subst (λ r. OffersPieces does fails IsWhole set ps fs s u h r k) (sym is) (piece IsWhole (λ es gs full none. is_whole es gs size chunk full whole_size none (omega (arith, count_of, room, less))) (Ok tt) offers)

    pub cut_piece : (v : State) (e : E) (r : Result (Unit {0}) E) → r ≡ Err e → Offers {X = Unit {0}} does fails set ps fs (offerings_in chunk) t u j (Err e) k → OffersPieces does fails IsWhole set ps fs s v h r k
    unfolding OffersPieces
    cut_piece v e r is offers d w m =
        subst (λ r. Worked does fails (PiecesOffered set d ps fs w IsWhole v) (PiecesOfferedInPart set d ps fs w) h r k) (sym is) (piece (λ es. Unit {0}) (λ es gs full none. tt) (Err e) offers d w m)

-- ---- no check of the report fits entries that are of the sheet
no_stray : {E : Type 0} (n : Naming E) (l : Kind) (s : Sheet) (i : ℕ) (es : List E) → All (λ e. IsTrue (n.inside s e)) es → first_fit (checks_from n l s i es) ≡ None
no_stray n l s i [] each = refl
no_stray n l s i (e ∷ es) each =
    let inside = All-head (λ x. IsTrue (n.inside s x)) e es each in
    ap (λ b. if not b then Some (check (not b) 19 layer.Report i (place_of l)).tells else first_fit (checks_from n l s (i + 1) es)) inside
    ∙ no_stray n l s (i + 1) es (All-tail (λ x. IsTrue (n.inside s x)) e es each)

pub no_faults : (d : Draft) (ps : List Point) (fs : List Face) (es : Entries) → IsFalse (lacks_rows d ps fs)
    → All (λ e. IsTrue (vf_naming.inside (sheet_in d ps fs) e)) es.vf → All (λ e. IsTrue (ee_naming.inside (sheet_in d ps fs) e)) es.ee → Reportable d ps fs es
unfolding Reportable
no_faults d ps fs es rows vfs ees =
    let s = sheet_in d ps fs in
    let first = no_stray vf_naming Vf s 0 (numbered_entries es.vf) (All-take (λ e. IsTrue (vf_naming.inside s e)) entry_limit es.vf vfs) in
    let second = no_stray ee_naming Ee s 0 (numbered_entries es.ee) (All-take (λ e. IsTrue (ee_naming.inside s e)) entry_limit es.ee ees) in
    sym (ap (λ b. if b then Some (check b 16 layer.Report 0 0).tells else first_fit (list_checks s es)) rows
    ∙ sym (past (entry_checks vf_naming Vf s es.vf) (entry_checks ee_naming Ee s es.ee) (sym first)) ∙ second)

-- ---- an inspection that is just opened has made no step of the walk
pub made_none : (d : Draft) (s : State) → Opened d s → s.core ≡ core_at_start d depth → length s.lists.vf.rest ≡ room → length s.lists.ee.rest ≡ room → Begins d s
unfolding Begins
made_none d s o core vf ee ps fs rows =
    let same : s.core.draft ≡ d = ap (λ c. c.draft) core in
    record {
      draft = same;
      found = λ i. record { core = core i; entries = record { vf = o.vf i; ee = o.ee i } };
      rows = ap (λ k. lacks_rows k ps fs) same ∙ rows;
      vf = empty vf_naming (sheet_in s.core.draft ps fs) s.lists.vf o.vf vf;
      ee = empty ee_naming (sheet_in s.core.draft ps fs) s.lists.ee o.ee ee;
      run = opened (subst (λ k. Opened k s) (sym same) o);
    }
  where
    empty : {E : Type 0} (n : Naming E) (sheet : Sheet) (list : Contents E) → list.entries ≡ [] → length list.rest ≡ room → Listed n sheet list
    empty n sheet list none room =
        record {
          room = ap (λ es. length es + length list.rest) none ∙ omega (arith, room);
          inside = subst (All (λ e. IsTrue (n.inside sheet e))) (sym none) (All-nil (λ e. IsTrue (n.inside sheet e)));
        }

-- what is reported of a state
abbrev pub view : List Point → List Face → State → View
view ps fs t = record { set = delivered; core = t.core; sheet = sheet_in t.core.draft ps fs }

abbrev pub report_in : List Point → List Face → State → List ℕ
report_in ps fs t = report_text (view ps fs t) (entries_of t.lists)

-- ---- of a plan that the tables hold
module _ (p : Plan) (d : Draft) (ps : List Point) (fs : List Face) (h : HoldsPlan p d ps fs) where
  abbrev over : List Offering → Walk
  over os = walked delivered (sheet_in d ps fs) (just_opened d) os

  abbrev refusals : List Offering → List Written
  refusals os = refusals_written delivered (sheet_in d ps fs) (just_opened d) os

  abbrev report : List Written
  report = printing (report_of p (walk p).found)

  same_walk : (os : List Offering) → over os ≡ walked delivered (sheet p) (just_opened (draft p)) os
  same_walk os = λ i. walked delivered (h.sheet i) (just_opened (h.draft i)) os

  all_written : plan_written p ≡ refusals (offerings_in p.pairs) ++ report
  all_written = ap (written_unless p) h.no_fault ∙ ap (λ (v : Walk). flat_map refusal_written v.refused ++ report) (sym (same_walk (offerings_in p.pairs)))

  -- of its first pairs a front is written
  pub part_written : (os : List Offering) (ws : List Written) → IsFront os (offerings_in p.pairs) → IsFront ws (refusals os) → IsFront ws (plan_written p)
  part_written os ws first part =
      let later = refusals_written delivered (sheet_in d ps fs) (over os) first.rest in
      front_of_front ws (refusals os) (plan_written p) part
      (front_of (refusals os) (later ++ report) (plan_written p)
      (all_written ∙ ap (λ l. l ++ report) (ap refusals first.split ∙ sorting.written_then delivered (sheet_in d ps fs) (just_opened d) os first.rest) ∙ append_assoc (refusals os) later report))

  -- all of its pairs are offered, and then nothing is read
  module _ (es gs : List (Event PlanFile)) (t : State) (m : Made delivered d ps fs (over (pairs_came es)) t) (ended : IsWhole es) (none : NotRead Pairs gs) (fits : FitsFile Pairs p.pairs (es ++ gs)) where
    whole_walk : over (pairs_came es) ≡ walk p
    whole_walk =
        let all = ended.whole p.pairs (sym (came_before (same_plan_file Pairs) es gs none) ∙ fits ∙ ap (λ n. take n p.pairs) (asked_before (same_plan_file Pairs) es gs none)) in
        same_walk (pairs_came es) ∙ ap (λ bytes. walked delivered (sheet p) (just_opened (draft p)) (offerings_in bytes)) (sym all)

    same_sheet : sheet_in t.core.draft ps fs ≡ sheet p
    same_sheet = ap (λ k. sheet_in k ps fs) m.draft ∙ h.sheet

    found : found_in t ≡ (walk p).found
    found = m.found ∙ ap (λ (v : Walk). v.found) whole_walk

    pub reported : refusals (pairs_came es) ++ printing (report_in ps fs t) ≡ plan_written p
    reported =
        (λ i. flat_map refusal_written (whole_walk i).refused ++ printing (report_text (record { set = delivered; core = (found i).core; sheet = same_sheet i }) (found i).entries))
        ∙ sym (ap (written_unless p) h.no_fault)

    pub claimed : Findings delivered t → ClaimOfPlan p
    claimed findings no_fault =
        subst (λ (k : Draft × Sheet × List Accepted × Found). WholeClaim delivered k.0 k.1 k.2 k.3.core k.3.entries.vf k.3.entries.ee)
        (λ i. ((m.draft ∙ h.draft) i, same_sheet i, ap (λ (v : Walk). v.accepted) whole_walk i, found i))
        (findings t.core.draft (sheet_in t.core.draft ps fs) (over (pairs_came es)).accepted [] m.run)

-- ---- from its opening on
module _ {S E : Type 0} (does : S → Event PlanFile → S → Type 0) (fails : S → Call PlanFile → E → S → Type 0) (d : Draft) (ps : List Point) (fs : List Face)
    (s t : State) (h m : S) (begun : Begins d s) (points : d.points ≤ length ps) (faces : d.faces ≤ length fs) where
  start : Made delivered d ps fs (just_opened d) s
  unfolding Begins
  start = begun ps fs (λ i. le-ltb (length ps) d.points points i || le-ltb (length fs) d.faces faces i)

  pub ran_in_part : (e : E) (r : Result Ending E) → OffersPieces {X = Unit {0}} does fails IsWhole delivered ps fs s t h (Err e) m → r ≡ Err e → InspectsFile does fails d ps fs h r m
  unfolding OffersPieces InspectsFile
  ran_in_part e r offers is =
      let a = offers d (just_opened d) start in
      subst (λ r. Worked does fails (PairsInspected d ps fs) (PairsInspectedInPart d ps fs) h r m) (sym is)
      (record {
        events = a.events;
        call = a.call;
        before = a.before;
        went = a.went;
        failed = a.failed;
        part = record {
          pieces = a.part.pieces;
          files = a.part.files;
          part = λ p holds fits. part_written p d ps fs holds (pairs_came a.events) (written a.events) (a.part.first p.pairs fits) a.part.part;
          all = λ f same p holds. a.part.all f same ∙ ap (λ (v : Walk). flat_map refusal_written v.refused) (same_walk p d ps fs holds (pairs_came a.events));
        };
      })

  module _ (offers : OffersPieces {X = Unit {0}} does fails IsWhole delivered ps fs s t h (Ok tt) m) where
    pub reportable : Reportable t.core.draft ps fs (entries_of t.lists)
    unfolding OffersPieces
    reportable = let made = (offers d (just_opened d) start).good.made in no_faults t.core.draft ps fs (entries_of t.lists) made.rows made.vf.inside made.ee.inside

    pub ran : (r : Result Ending E) (k : S) → Prints does fails (report_in ps fs t) m r k → IfOk r (λ end. (end ≡ Complete) × Findings delivered t) → InspectsFile does fails d ps fs h r k
    unfolding OffersPieces InspectsFile
    ran r k print found =
        let a = offers d (just_opened d) start in
        let g = a.good in
        let text = printing (report_in ps fs t) in
        worked_after does fails _ (PairsInspected d ps fs) _ (PairsInspectedInPart d ps fs) h m k a.events r a.went
        (λ gs end o.
        let none = no_pairs gs [] (append-nil (files_read gs) ∙ o.no_read) in
        record {
          ending = o.answer.0;
          pieces = g.pieces;
          files = no_reads a.events gs o.no_read ∙ g.files;
          all = λ p holds fits. flat_map-append written_by a.events gs ∙ (λ i. g.all i ++ o.whole i) ∙ reported p d ps fs holds a.events gs t g.made g.came none fits;
          claim = λ p holds fits. claimed p d ps fs holds a.events gs t g.made g.came none fits o.answer.1;
        })
        (λ gs call o.
        let none = no_pairs gs (unread call) o.no_read in
        record {
          pieces = g.pieces;
          files = reads_before a.events gs (unread call) o.no_read ∙ g.files;
          part = λ p holds fits.
              subst (λ (l : List Written × List Written). IsFront l.0 l.1)
              (λ i. ((ap (λ l. l ++ written gs) (sym g.all) ∙ sym (flat_map-append written_by a.events gs)) i, reported p d ps fs holds a.events gs t g.made g.came none fits i))
              (front_behind (refusals p d ps fs holds (pairs_came a.events)) (written gs) text o.part);
          all = λ f same. absurd (never_reads gs call f o.no_read same);
        })
        (written_with does fails _ (λ end. (end ≡ Complete) × Findings delivered t) m k text r print found)
