-- A plan's sheet and its step, read file by file.
use Rattle.std.proofs.Common.{◌≡◌, ℕ, ◌+◌, ◌≤◌, false, List, [], ◌∷◌, ◌++◌, length, take, drop, nat_lt, Some, Ok, Err, Result, is_ok, if◌then◌else◌, IfOk, refl, sym, ap, ◌∙◌, ◌||◌, subst, append-nil, arith, true}
use Rattle.std.proofs.Math.Seq.{take-append_seam, take-length}
use Rattle.std.proofs.lemmas.Bool.{le-ltb}
use Rattle.hosts.specs.Events.{Event, Read, Call, Reading}
use Rattle.hosts.specs.Traces.{Went, nothing, next}
use Rattle.hosts.specs.Outcomes.{Reads}
use Rattle.hosts.specs.Works.{unless_found}
use Rattle.sheet.specs.Checks.{first_fit, fault_notice, check}
use Rattle.sheet.specs.Faults.{notice_of_sheet}
use Rattle.sheet.specs.Lines.{numbered_lines}
use Rattle.sheet.specs.Sheet.{text_limit, point_limit, face_limit, sheet_checks, draft_of, points_in, faces_in, onto_front}
use Rattle.sheet.specs.declared.drafts.Draft.{Draft}
use Rattle.sheet.specs.declared.faults.SheetFault.{SheetFault}
use Rattle.sheet.specs.declared.notices.Layer.TheVariants as layer
use Rattle.sheet.specs.declared.notices.Notice.{Notice}
use Rattle.sheet.specs.declared.rows.Point.{Point}
use Rattle.sheet.specs.declared.rows.Face.{Face}
use Rattle.step.specs.Faults.{notice_of_step}
use Rattle.step.specs.Laying.{lay_checks, rows_checks, with_ends}
use Rattle.step.specs.Limit.{record_limit}
use Rattle.step.specs.declared.faults.StepFault.{StepFault}
use Rattle.sheet.proofs.Fronts as text_front
use Rattle.step.proofs.Fronts as record_front
use Rattle.step.proofs.LayAnswers.{length_with_ends}
use Rattle.inspection.specs.Sheets.{sheet_of}
use Rattle.plan.specs.Plans.{Plan, bytes_of, same_plan_file, draft, resting_points, sheet_fault, step_fault, or_else, needed_files}
use Rattle.plan.specs.Reading.{PlanSays, PlanRead}
use Rattle.plan.specs.inner.ReadFiles.{HoldsSheet, SheetSays, SheetRead, StepSays, StepLaid}
use Rattle.plan.specs.declared.plan_files.PlanFile.{PlanFile}
use Rattle.plan.specs.declared.plan_files.PlanFile.TheVariants.{Sheet, Step}

front : {X : Type 0} (rows table full : List X) (n : ℕ) → n ≡ length rows → full ≡ onto_front rows table → take n full ≡ rows
front rows table full n e h = rw (e, h) (take-append_seam rows (drop (length rows) table))

-- ---- what the front of a text says, read into tables of the full limits
pub text_says : (ps qs : List Point) (fs gs : List Face) (text : List ℕ) (r : Result Draft SheetFault) → length ps ≡ point_limit → length fs ≡ face_limit
    → fault_notice notice_of_sheet r ≡ first_fit (sheet_checks text (length ps) (length fs)) → IfOk r (λ d. d ≡ draft_of text)
    → qs ≡ (if is_ok r then onto_front (points_in (numbered_lines text)) ps else ps) → gs ≡ (if is_ok r then onto_front (faces_in (numbered_lines text)) fs else fs)
    → (p : Plan) → text ≡ take (text_limit + 1) p.sheet → SheetSays p qs gs r
text_says ps qs fs gs text r m n fault draft points faces p came = says r (same_fault ∙ sym fault) draft points faces
  where
    same_fault : sheet_fault p ≡ first_fit (sheet_checks text (length ps) (length fs))
    same_fault =
        sym (text_front.front_decides p.sheet point_limit face_limit) ∙ ap (λ t. first_fit (sheet_checks t point_limit face_limit)) (sym came)
        ∙ (λ i. first_fit (sheet_checks text (sym m i) (sym n i)))

    says : (r : Result Draft SheetFault) → sheet_fault p ≡ fault_notice notice_of_sheet r → IfOk r (λ d. d ≡ draft_of text)
        → qs ≡ (if is_ok r then onto_front (points_in (numbered_lines text)) ps else ps) → gs ≡ (if is_ok r then onto_front (faces_in (numbered_lines text)) fs else fs) → SheetSays p qs gs r
    says (Err x) fault draft points faces = fault
    says (Ok d) fault draft points faces =
        let whole : text ≡ p.sheet = came ∙ text_front.front_is_whole p.sheet point_limit face_limit fault in
        record {
          no_fault = fault;
          draft = draft ∙ ap draft_of whole;
          points = front (points_in (numbered_lines text)) ps qs d.points (ap (λ (k : Draft). k.points) draft) points ∙ ap (λ t. points_in (numbered_lines t)) whole;
          faces = front (faces_in (numbered_lines text)) fs gs d.faces (ap (λ (k : Draft). k.faces) draft) faces ∙ ap (λ t. faces_in (numbered_lines t)) whole;
        }

-- ---- and what the front of a record says
pub record_says : (d : Draft) (ps qs : List Point) (bytes : List ℕ) (r : Result (Unit {0}) StepFault) → length ps ≡ point_limit → d.points ≤ point_limit
    → fault_notice notice_of_step r ≡ first_fit (lay_checks d.points ps bytes) → qs ≡ (if is_ok r then onto_front (with_ends (take d.points ps) bytes) ps else ps)
    → (p : Plan) (fs : List Face) → HoldsSheet p d ps fs → bytes ≡ take (record_limit + 1) p.step → StepSays p d qs fs r
record_says d ps qs bytes r m few fault points p fs h came = says r (sym same_fault ∙ sym fault) points
  where
    -- the table's further rows say nothing
    same_rows : (bs : List ℕ) → first_fit (lay_checks d.points ps bs) ≡ first_fit (lay_checks (draft p).points (resting_points p) bs)
    same_rows bs =
        let n = length (resting_points p) in
        let a : nat_lt (length ps) d.points ≡ false = le-ltb (length ps) d.points (omega (arith, m, few)) in
        let b : nat_lt n n ≡ false = le-ltb n n (omega arith) in
        ap (λ x. if x then Some (check true 13 layer.Step 0 0).tells else first_fit (rows_checks 0 (take d.points ps) bs)) a
        ∙ ap (λ l. first_fit (rows_checks 0 l bs)) (h.points ∙ sym (take-length (resting_points p)))
        ∙ ap (λ x. if x then Some (check true 13 layer.Step 0 0).tells else first_fit (rows_checks 0 (take n (resting_points p)) bs)) (sym b)

    same_fault : first_fit (lay_checks d.points ps bytes) ≡ step_fault p
    same_fault =
        ap (λ b. first_fit (lay_checks d.points ps b)) came ∙ record_front.front_decides d.points ps (record_limit + 1) p.step (omega (arith, few)) ∙ same_rows p.step

    says : (r : Result (Unit {0}) StepFault) → step_fault p ≡ fault_notice notice_of_step r → qs ≡ (if is_ok r then onto_front (with_ends (take d.points ps) bytes) ps else ps) → StepSays p d qs fs r
    says (Err x) fault points = fault
    says (Ok x) fault points =
        let whole : bytes ≡ p.step = came ∙ record_front.front_is_whole d.points ps (record_limit + 1) p.step (omega (arith, few)) (same_rows p.step ∙ fault) in
        let rows = with_ends (take d.points ps) bytes in
        let count : d.points ≡ length rows = ap (λ (k : Draft). k.points) h.draft ∙ ap length (sym h.points) ∙ sym (length_with_ends (take d.points ps) bytes) in
        record {
          no_fault = (λ i. or_else (h.no_fault i) (fault i));
          draft = h.draft;
          sheet = (λ i. sheet_of ((front rows ps qs d.points count points ∙ (λ j. with_ends (h.points j) (whole j))) i) (h.faces i));
        }

-- ---- the five ways through both files
module _ {S E : Type 0} (does : S → Event PlanFile → S → Type 0) (fails : S → Call PlanFile → E → S → Type 0) where
  pub sheet_unread : (ps : List Point) (fs : List Face) (s t : S) (e : E) (r : Result (Result Draft Notice) E) → fails s (Reading Sheet) e t → r ≡ Err e → PlanRead does fails ps fs s r t
  unfolding PlanRead
  sheet_unread ps fs s t e r failed is =
      rw is
      (record {
        events = [];
        call = Reading Sheet;
        before = s;
        went = nothing;
        failed = failed;
        part = record { reads_only = refl; files = λ p h. record { rest = unless_found (sheet_fault p) (Step ∷ []); split = refl } };
      })

  module _ (s t : S) (ps : List Point) (fs : List Face) (read : Result Draft SheetFault) (first : SheetRead does s ps fs read t) where
    abbrev one : List (Event PlanFile)
    one = Read Sheet (text_limit + 1) first.came ∷ []

    one_went : Went does s one t
    one_went = next (Read Sheet (text_limit + 1) first.came) nothing first.did

    -- whatever is read behind it
    says : (p : Plan) (x : Result Draft SheetFault) → read ≡ x → first.came ++ [] ≡ take (text_limit + 1) p.sheet → SheetSays p ps fs x
    says p x is h = subst (SheetSays p ps fs) is (first.says p (sym (append-nil first.came) ∙ h))

    pub sheet_faulty : (x : SheetFault) (n : Notice) → read ≡ Err x → n ≡ notice_of_sheet x → PlanRead does fails ps fs s (Ok (Err n)) t
    unfolding PlanRead
    sheet_faulty x n is told =
        record {
          events = one;
          went = one_went;
          good = record {
            reads_only = refl;
            says = λ p h k.
                let has = says p (Err x) is h ∙ ap Some (sym told) in
                (ap (λ o. or_else o (step_fault p)) has, sym (ap (λ o. Sheet ∷ unless_found o (Step ∷ [])) has));
          };
        }

    module _ (d : Draft) (good : read ≡ Ok d) where
      pub step_unread : (u : S) (e : E) (r : Result (Result Draft Notice) E) (qs : List Point) → fails t (Reading Step) e u → r ≡ Err e → PlanRead does fails qs fs s r u
      unfolding PlanRead
      step_unread u e r qs failed is =
          rw is
          (record {
            events = one;
            call = Reading Step;
            before = t;
            went = one_went;
            failed = failed;
            part = record { reads_only = refl; files = λ p h. rw (says p (Ok d) good (h Sheet)).no_fault (record { rest = []; split = refl }) };
          })

      module _ (u : S) (qs : List Point) (laid : Result (Unit {0}) StepFault) (second : StepLaid does d ps qs t laid u) where
        abbrev two : List (Event PlanFile)
        two = Read Sheet (text_limit + 1) first.came ∷ (Read Step (record_limit + 1) second.came ∷ [])

        two_went : Went does s two u
        two_went = next (Read Step (record_limit + 1) second.came) one_went second.did

        lays : (p : Plan) (x : Result (Unit {0}) StepFault) → laid ≡ x → HoldsSheet p d ps fs → second.came ++ [] ≡ take (record_limit + 1) p.step → StepSays p d qs fs x
        lays p x is k h = subst (StepSays p d qs fs) is (second.says p fs k (sym (append-nil second.came) ∙ h))

        both_needed : (p : Plan) → HoldsSheet p d ps fs → Sheet ∷ (Step ∷ []) ≡ needed_files p
        both_needed p k = sym (ap (λ o. Sheet ∷ unless_found o (Step ∷ [])) k.no_fault)

        pub step_faulty : (x : StepFault) (n : Notice) → laid ≡ Err x → n ≡ notice_of_step x → PlanRead does fails qs fs s (Ok (Err n)) u
        unfolding PlanRead
        step_faulty x n is told =
            record {
              events = two;
              went = two_went;
              good = record {
                reads_only = refl;
                says = λ p h k.
                    let holds = says p (Ok d) good h in
                    let has = lays p (Err x) is holds k ∙ ap Some (sym told) in
                    ((λ i. or_else (holds.no_fault i) (has i)), both_needed p holds);
              };
            }

        pub both_read : laid ≡ Ok tt → d.points ≤ length qs → d.faces ≤ length fs → PlanRead does fails qs fs s (Ok (Ok d)) u
        unfolding PlanRead
        both_read is points faces =
            record {
              events = two;
              went = two_went;
              good = record {
                reads_only = refl;
                says = λ p h k.
                    let holds = says p (Ok d) good h in
                    let a = le-ltb (length qs) d.points points in
                    let b = le-ltb (length fs) d.faces faces in
                    ((lays p (Ok tt) is holds k, λ i. a i || b i), both_needed p holds);
              };
            }

-- ---- in the words of hosts: what was read says what the tables hold, or the fault
module _ {S E : Type 0} (does : S → Event PlanFile → S → Type 0) (fails : S → Call PlanFile → E → S → Type 0) (ps : List Point) (fs : List Face) (s t : S) where
  pub reads : (r : Result (Result Draft Notice) E) → PlanRead does fails ps fs s r t → Reads same_plan_file bytes_of needed_files does fails (λ p x. PlanSays p ps fs x) s r t
  unfolding PlanRead
  reads (Ok x) read =
      record { events = read.events; went = read.went; good = record { reads_only = read.good.reads_only; says = λ p h. read.good.says p (h Sheet) (h Step) } }
  reads (Err e) read =
      record { events = read.events; call = read.call; before = read.before; went = read.went; failed = read.failed; part = record { reads_only = read.part.reads_only; files = read.part.files } }
