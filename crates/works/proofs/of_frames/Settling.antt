-- Every two faces of two frames are settled by what is printed, but for the pairs that are refused.
use Rattle.std.proofs.Common.{◌≡◌, ◌<◌, ◌≤◌, ◌-◌, ◌^◌, min, take, ℕ, Bool, true, false, cond, eqb, eqb-true, List, [], ◌∷◌, ◌++◌, length, Some, None, Option, All, Contains, refl, sym, ap, ◌∙◌, subst, inl, inr, arith, append_assoc}
use Rattle.std.specs.Prelude.{codes, decimal, count_by}
use Rattle.std.proofs.lemmas.Bool.{true≢false, and_from}
use Rattle.std.proofs.lemmas.List.{length-map, nil_from_length}
use Rattle.std.proofs.lemmas.List.Elements.{All-weaker, All-contains, All-nil, All-cons, All-append, Contains-append_left, Contains-append_right}
use Rattle.sheet.specs.Lines.{lines_of}
use Rattle.sheet.specs.Notices.{fault_line}
use Rattle.sheet.specs.declared.notices.Notice.{Notice}
use Rattle.sheet.specs.declared.rows.Point.{Point}
use Rattle.motion.specs.Rows.{delivered}
use Rattle.inspection.specs.declared.offerings.Offering.{Offering}
use Rattle.inspection.specs.declared.offerings.Offering.TheVariants.{Faces}
use Rattle.inspection.specs.Offerings.{SameOffering}
use Rattle.inspection.specs.Sheets.{Sheet}
use Rattle.inspection.specs.Tests.{vf_naming, ee_naming}
use Rattle.near_faces.specs.declared.pairs.Pair.{Pair}
use Rattle.near_faces.specs.Near.{near_pairs}
use Rattle.near_faces.proofs.EachTwo.{each_two}
use Rattle.report.specs.Lines.{vf_line, ee_line}
use Rattle.report.specs.Settled.{Settled, IsAmong, SettledBut, is_fault}
use Rattle.report.proofs.Told.{begins, IsInner, IsPlain, settled_turned, settled_apart}
use Rattle.report.proofs.WholeLines.{no_feed, AreLines, are_one, are_more, lines_are, joined, no_feed-joined, no_feed-decimal}
use Rattle.frames.specs.Frames.{Frames, no_step, step_between}
use Rattle.frames.specs.Lines.{difference_line, step_line}
use Rattle.frames.specs.Outcomes.{outcome, outcome_by, with_line_feed, line_of_step}
use Rattle.frames.specs.declared.comparing.Difference.{Difference}
use Rattle.frames.specs.declared.comparing.Difference.TheVariants as difference
use Rattle.frames.specs.declared.frame_files.NoStep.{NoStep}
use Rattle.frames.specs.declared.frame_files.NoStep.TheVariants as no
use Rattle.frames.specs.declared.frame_files.Recording.{Recording}
use Rattle.frames.specs.declared.frame_files.Recording.TheVariants.{Recorded, Faulty, Different}
use Rattle.pairing.specs.Pairings.{pairing, paired, told_fault, pairs_bytes, search_fault}
use Rattle.pairing.proofs.Near.{covered as covers}
use Rattle.plan.specs.Plans.{Plan, plan, draft, fault, sheet}
use Rattle.works.specs.inspect.Plans.{printout_of, printout, plan_written, walk, ClaimOfPlan}
use Rattle.works.specs.inspect.Walks.{Refusal}
use Rattle.plan.specs.declared.endings.Ending.{Ending}
use Rattle.plan.specs.declared.endings.Ending.TheVariants as plan_ending
use Rattle.works.proofs.of_a_plan.Settling.{no_feed-fault, plan_lines, plan_are, plan_faults, plan_inner, inner_fault, counted, count_none, count-append, refused_in, bytes_of_pairs, settled_others}
use Rattle.works.specs.two_frames.Accounts.{Account, account, account_text, account_refused, after_pairing, after_recording, behind, inspected, paired_plan, record_between, refused_count, searched, sheet_between, ending_by, Claims, ClaimsOver}
use Rattle.hosts.specs.Pages.{onto_page}
use Rattle.hosts.specs.Writing.{Written, printing, output_in, store_in, or_tells, Outcome}
use Rattle.hosts.proofs.Writing.{output-printing, store-printing}
use Rattle.works.proofs.of_frames.Texts.{output_behind, store_behind, output_then, store_then, plan_output, plan_store}
use Rattle.works.proofs.of_a_plan.InMemory.{whole_text}
use Rattle.works.specs.declared.two_frames.endings.FramesEnding.TheVariants as ending
use Rattle.works.specs.two_frames.Lines.{covered_line, refused_line, last_line}
use Rattle.works.specs.two_frames.Settled.{SettlesFrames, SettlesFramesOnto}
use Rattle.works.proofs.of_frames.Covered.{each_pair, offered}
use Rattle.works.proofs.of_frames.Paired.{IsPaired, paired_so}

-- where no line is the last, nothing is said
not_there : (b : ℕ) (l : List ℕ) (ls : List (List ℕ)) → begins b l ≡ true → All (λ x. begins b x ≡ false) ls → Contains ls l → ⊥
not_there b l ls is none there = true≢false (sym is ∙ All-contains (λ x. begins b x ≡ false) ls l none there)

nothing_said : (s : Sheet) (text : List ℕ) (ls : List (List ℕ)) → lines_of text ≡ ls → All IsInner ls → SettlesFrames s text []
nothing_said s text ls lines inner =
    record {
      covered = λ there. absurd (not_there 99 covered_line ls refl (All-weaker IsInner (λ x. begins 99 x ≡ false) (λ x h. h.covered) ls inner) (subst (λ xs. Contains xs covered_line) lines there));
      refused = [];
      bytes_are = refl;
      but_refused = λ n there. absurd (not_there 114 (refused_line n) ls refl (All-weaker IsInner (λ x. begins 114 x ≡ false) (λ x h. h.refused) ls inner) (subst (λ xs. Contains xs (refused_line n)) lines there));
    }

-- ---- a line that is told
pub record TellsLine {X : Type 0} (good : X) (o : Outcome X) : Type 0 where
  pub words : List ℕ
  pub line : o.line ≡ words ++ codes "\n"
  pub whole : no_feed words ≡ true
  pub inner : IsInner words
  pub plain : o.answer ≡ good → IsPlain words

-- ---- of the step
no_feed-difference : (d : Difference) → no_feed (difference_line d) ≡ true
no_feed-difference (difference.Points a b) = no_feed-joined (codes "the frames have " ∷ decimal a ∷ codes " and " ∷ decimal b ∷ codes " points" ∷ []) (and_from _ _ (no_feed-decimal a) (and_from _ _ (no_feed-decimal b) refl))
no_feed-difference (difference.Faces a b) = no_feed-joined (codes "the frames have " ∷ decimal a ∷ codes " and " ∷ decimal b ∷ codes " faces" ∷ []) (and_from _ _ (no_feed-decimal a) (and_from _ _ (no_feed-decimal b) refl))
no_feed-difference (difference.Face i) = no_feed-joined (codes "the frames differ in face " ∷ decimal i ∷ []) (and_from _ _ (no_feed-decimal i) refl)

inner_difference : (d : Difference) → IsInner (difference_line d)
inner_difference (difference.Points a b) = record { covered = refl; refused = refl }
inner_difference (difference.Faces a b) = record { covered = refl; refused = refl }
inner_difference (difference.Face i) = record { covered = refl; refused = refl }

no_feed-step : (a b c : ℕ) → no_feed (step_line a b c) ≡ true
no_feed-step a b c =
    no_feed-joined (codes "step " ∷ decimal a ∷ codes " points, " ∷ decimal b ∷ codes " moved, " ∷ decimal c ∷ codes " bytes" ∷ [])
    (and_from _ _ (no_feed-decimal a) (and_from _ _ (no_feed-decimal b) (and_from _ _ (no_feed-decimal c) refl)))

step_is : (why : Option NoStep) (ps : List Point) → TellsLine Recorded (outcome_by why ps)
step_is (Some (no.Faulty file n)) ps = record { words = fault_line n; line = refl; whole = no_feed-fault n; inner = inner_fault n; plain = λ h. cc }
step_is (Some (no.Different d)) ps = record { words = difference_line d; line = refl; whole = no_feed-difference d; inner = inner_difference d; plain = λ h. cc }
step_is None ps =
    record {
      words = line_of_step ps;
      line = refl;
      whole = no_feed-step _ _ _;
      inner = record { covered = refl; refused = refl };
      plain = λ h. record { inner = record { covered = refl; refused = refl }; fault = refl };
    }

-- ---- of the pairs
pairs_is : (a b : Option Notice) (n : ℕ) (ps : List Pair) → TellsLine plan_ending.Complete (or_tells a told_fault (or_tells b told_fault (paired n ps)))
pairs_is (Some m) b n ps = record { words = fault_line m; line = refl; whole = no_feed-fault m; inner = inner_fault m; plain = λ h. cc }
pairs_is None (Some m) n ps = record { words = fault_line m; line = refl; whole = no_feed-fault m; inner = inner_fault m; plain = λ h. cc }
pairs_is None None n ps =
    record {
      words = joined (codes "near " ∷ decimal n ∷ codes " faces, " ∷ decimal (length ps) ∷ codes " pairs" ∷ []);
      line = simp append_assoc;
      whole = no_feed-joined (codes "near " ∷ decimal n ∷ codes " faces, " ∷ decimal (length ps) ∷ codes " pairs" ∷ []) (and_from _ _ (no_feed-decimal n) (and_from _ _ (no_feed-decimal (length ps)) refl));
      inner = record { covered = refl; refused = refl };
      plain = λ h. record { inner = record { covered = refl; refused = refl }; fault = refl };
    }

-- ---- the last line
no_feed-last : (n : ℕ) → no_feed (last_line n) ≡ true
no_feed-last n = by (eqb n 0)
  where
    by : (b : Bool) → no_feed (cond b covered_line (refused_line n)) ≡ true
    by true = refl
    by false = no_feed-joined (codes "refused " ∷ decimal n ∷ codes " pairs" ∷ []) (and_from _ _ (no_feed-decimal n) refl)

last_no_fault : (n : ℕ) → is_fault (last_line n) ≡ false
last_no_fault n = by (eqb n 0)
  where
    by : (b : Bool) → is_fault (cond b covered_line (refused_line n)) ≡ false
    by true = refl
    by false = refl

covered_last : (n : ℕ) → begins 99 (last_line n) ≡ true → n ≡ 0
covered_last n h = by (eqb n 0) refl h
  where
    by : (b : Bool) → eqb n 0 ≡ b → begins 99 (cond b covered_line (refused_line n)) ≡ true → n ≡ 0
    by true is h = eqb-true n 0 is
    by false is h = cc

-- ---- a plan with its near pairs
among_turned : (refused : List Offering) (o p : Offering) → SameOffering o p → IsAmong refused p → IsAmong refused o
among_turned refused o p same (k, q, here, is, other) = (k, q, here, is, along o p q same other)
  where
    along : (o p q : Offering) → SameOffering o p → SameOffering p q → SameOffering o q
    along (Faces f g) (Faces k l) (Faces m n) (inl (a, b)) (inl (c, d)) = inl (a ∙ c, b ∙ d)
    along (Faces f g) (Faces k l) (Faces m n) (inl (a, b)) (inr (c, d)) = inr (a ∙ c, b ∙ d)
    along (Faces f g) (Faces k l) (Faces m n) (inr (a, b)) (inl (c, d)) = inr (a ∙ d, b ∙ c)
    along (Faces f g) (Faces k l) (Faces m n) (inr (a, b)) (inr (c, d)) = inl (a ∙ d, b ∙ c)

module _ (p : Plan) (none : fault p ≡ None) (all_near : p.pairs ≡ pairs_bytes (near_pairs (sheet p))) (claim : ClaimOfPlan p) (text : List ℕ) (within : (l : List ℕ) → Contains (plan_lines p none) l → Contains (lines_of text) l) where
  abbrev Holds : Offering → Type 0
  Holds o = ¬ IsAmong (refused_in (walk p)) o → Settled (sheet p) text o

  rest_settled : SettledBut (refused_in (walk p)) (sheet p) text
  rest_settled =
      each_two (sheet p) Holds
      (λ o q same h other. settled_turned (sheet p) text o q same (h (λ among. other (among_turned (refused_in (walk p)) o q same among))))
      (λ f g hf hg apart other. record {
        vf = settled_apart vf_naming vf_line (sheet p) text (Faces f g) ((covers p).far.vf f g hf hg apart);
        ee = settled_apart ee_naming ee_line (sheet p) text (Faces f g) ((covers p).far.ee f g hf hg apart);
      })
      (each_pair Holds (near_pairs (sheet p)) (subst (λ (os : List Offering). All Holds os) (offered p none all_near) (settled_others p none claim text within)))

claims_parts : (s : Sheet) (p : Plan) (n : ℕ) → ClaimsOver s p (ending_by n) → (sheet p ≡ s) × ClaimOfPlan p
claims_parts s p n claims = by (eqb n 0) claims
  where
    by : (b : Bool) → ClaimsOver s p (cond b ending.Covered (ending.Refused n)) → (sheet p ≡ s) × ClaimOfPlan p
    by true c = (c.0, c.2)
    by false c = (c.0, c.2)

one : (P : List ℕ → Type 0) (l : List ℕ) → P l → All P (l ∷ [])
one P l h = All-cons P l [] h (All-nil P)

-- ---- behind the line of a step
module _ (first : List ℕ) (whole : no_feed first ≡ true) (plain : IsPlain first) (sheet_text bytes : List ℕ) where
  abbrev o : Outcome Ending
  o = pairing sheet_text bytes

  abbrev p : Plan
  p = paired_plan sheet_text bytes

  second : TellsLine plan_ending.Complete o
  second = pairs_is (fault (plan sheet_text bytes [])) (search_fault (plan sheet_text bytes [])) (draft (plan sheet_text bytes [])).faces (near_pairs (sheet (plan sheet_text bytes [])))

  second_are : AreLines o.line (second.words ∷ [])
  second_are = subst (λ t. AreLines t (second.words ∷ [])) (sym second.line) (are_one second.words second.whole)

  -- all was inspected
  module _ (is : o.answer ≡ plan_ending.Complete) where
    found : IsPaired (plan sheet_text bytes []) o
    found = paired_so sheet_text bytes is

    abbrev none : fault p ≡ None
    none = found.no_fault

    abbrev n : ℕ
    n = refused_count p

    abbrev text : List ℕ
    text = with_line_feed first ++ (o.line ++ ((printout p).text ++ (last_line n ++ codes "\n")))

    abbrev lines : List (List ℕ)
    lines = (first ∷ []) ++ ((second.words ∷ []) ++ (plan_lines p none ++ (last_line n ∷ [])))

    lined : lines_of text ≡ lines
    lined =
        lines_are text lines
        (are_more (with_line_feed first) (o.line ++ ((printout p).text ++ (last_line n ++ codes "\n"))) (first ∷ []) ((second.words ∷ []) ++ (plan_lines p none ++ (last_line n ∷ []))) (are_one first whole)
        (are_more o.line ((printout p).text ++ (last_line n ++ codes "\n")) (second.words ∷ []) (plan_lines p none ++ (last_line n ∷ [])) second_are
        (are_more (printout p).text (last_line n ++ codes "\n") (plan_lines p none) (last_line n ∷ []) (plan_are p none) (are_one (last_line n) (no_feed-last n)))))

    within : (l : List ℕ) → Contains (plan_lines p none) l → Contains (lines_of text) l
    within l h =
        subst (λ (ls : List (List ℕ)). Contains ls l) (sym lined)
        (Contains-append_right (first ∷ []) ((second.words ∷ []) ++ (plan_lines p none ++ (last_line n ∷ []))) l
        (Contains-append_right (second.words ∷ []) (plan_lines p none ++ (last_line n ∷ [])) l
        (Contains-append_left (plan_lines p none) (last_line n ∷ []) l h)))

    faults : count_by is_fault (lines_of text) ≡ length (refused_in (walk p))
    faults =
        let a = count_none (first ∷ []) (one IsPlain first plain) in
        let b = count_none (second.words ∷ []) (one IsPlain second.words (second.plain is)) in
        let c : count_by is_fault (last_line n ∷ []) ≡ 0 = no_more n in
        omega (arith, ap (count_by is_fault) lined, count-append (first ∷ []) ((second.words ∷ []) ++ (plan_lines p none ++ (last_line n ∷ []))), count-append (second.words ∷ []) (plan_lines p none ++ (last_line n ∷ [])), count-append (plan_lines p none) (last_line n ∷ []), plan_faults p none, length-map (walk p).refused (λ (r : Refusal). r.pair), a, b, c)
      where
        no_more : (n : ℕ) → count_by is_fault (last_line n ∷ []) ≡ 0
        no_more n = rw (counted (last_line n) [], last_no_fault n) refl

    none_refused : Contains (lines_of text) covered_line → n ≡ 0
    none_refused there = by (begins 99 (last_line n)) refl
      where
        by : (b : Bool) → begins 99 (last_line n) ≡ b → n ≡ 0
        by true is_last = covered_last n is_last
        by false other =
            absurd (not_there 99 covered_line lines refl
            (All-append (λ x. begins 99 x ≡ false) (first ∷ []) ((second.words ∷ []) ++ (plan_lines p none ++ (last_line n ∷ []))) (one (λ x. begins 99 x ≡ false) first plain.inner.covered)
            (All-append (λ x. begins 99 x ≡ false) (second.words ∷ []) (plan_lines p none ++ (last_line n ∷ [])) (one (λ x. begins 99 x ≡ false) second.words second.inner.covered)
            (All-append (λ x. begins 99 x ≡ false) (plan_lines p none) (last_line n ∷ []) (All-weaker IsInner (λ x. begins 99 x ≡ false) (λ x h. h.covered) (plan_lines p none) (plan_inner p none)) (one (λ x. begins 99 x ≡ false) (last_line n) other))))
            (subst (λ (ls : List (List ℕ)). Contains ls covered_line) lined there))

    all_settled : ClaimOfPlan p → SettlesFrames (sheet p) text (printout p).stored
    all_settled claim =
        let rest = rest_settled p none found.stored claim text within in
        record {
          covered = λ there. subst (λ (r : List Offering). SettledBut r (sheet p) text) (nil_from_length (refused_in (walk p)) (length-map (walk p).refused (λ (r : Refusal). r.pair) ∙ none_refused there)) rest;
          refused = refused_in (walk p);
          bytes_are = ap (λ m. (printout_of delivered p m).stored) none ∙ bytes_of_pairs (walk p).refused;
          but_refused = λ m there. (rest, faults);
        }

    -- all that is written has this text, and these bytes of the refused pairs
    abbrev all : List Written
    all = (behind o.line (inspected p)).all

    last : List ℕ
    last = last_line n ++ codes "\n"

    output_is : with_line_feed first ++ output_in all ≡ text
    unfolding last
    output_is =
        ap (λ t. with_line_feed first ++ t)
        (output_behind o.line (plan_written p ++ printing last) ∙ ap (λ t. o.line ++ t) (output_then (plan_written p) last ∙ ap (λ t. t ++ last) (plan_output p none)))

    store_is : store_in all ≡ (printout p).stored
    unfolding last
    store_is = store_behind o.line (plan_written p ++ printing last) ∙ store_then (plan_written p) last ∙ plan_store p none

  settled_after : (s : Sheet) (x : Ending) → o.answer ≡ x → ClaimsOver s p (after_pairing o.line x (inspected p)).ending
      → SettlesFrames s (with_line_feed first ++ output_in (after_pairing o.line x (inspected p)).all) (store_in (after_pairing o.line x (inspected p)).all)
  settled_after s plan_ending.Complete is claims =
      let parts = claims_parts s p (refused_count p) claims in
      subst (λ (t : Sheet). SettlesFrames t (with_line_feed first ++ output_in (all is)) (store_in (all is))) parts.0
      (subst (λ (k : List ℕ × List ℕ). SettlesFrames (sheet p) k.0 k.1) (λ i. (sym (output_is is) i, sym (store_is is) i)) (all_settled is parts.1))
  settled_after s (plan_ending.Faulty m) is claims =
      subst (λ (k : List ℕ × List ℕ). SettlesFrames s k.0 k.1) (λ i. (with_line_feed first ++ sym (output-printing o.line) i, sym (store-printing o.line) i))
      (nothing_said s (with_line_feed first ++ o.line) ((first ∷ []) ++ (second.words ∷ []))
      (lines_are (with_line_feed first ++ o.line) ((first ∷ []) ++ (second.words ∷ [])) (are_more (with_line_feed first) o.line (first ∷ []) (second.words ∷ []) (are_one first whole) second_are))
      (All-append IsInner (first ∷ []) (second.words ∷ []) (one IsInner first plain.inner) (one IsInner second.words second.inner)))

module _ (f : Frames) where
  told : TellsLine Recorded (outcome f)
  told = step_is (no_step f) (step_between f)

  -- all that is written is a line
  ended : SettlesFrames (sheet_between f) (output_in (printing (outcome f).line)) (store_in (printing (outcome f).line))
  ended =
      subst (λ (k : List ℕ × List ℕ). SettlesFrames (sheet_between f) k.0 k.1) (λ i. (sym (output-printing (outcome f).line) i, sym (store-printing (outcome f).line) i))
      (nothing_said (sheet_between f) (outcome f).line (told.words ∷ [])
      (lines_are (outcome f).line (told.words ∷ []) (subst (λ t. AreLines t (told.words ∷ [])) (sym told.line) (are_one told.words told.whole))) (one IsInner told.words told.inner))

  abbrev after : Recording → Account
  after x = after_recording (outcome f).line x (searched f.start (record_between f))

  by_answer : (x : Recording) → (outcome f).answer ≡ x → Claims f (after x).ending → SettlesFrames (sheet_between f) (output_in (after x).all) (store_in (after x).all)
  by_answer Recorded is claims =
      let first = (outcome f).line in
      let rest = (searched f.start (record_between f)).all in
      subst (λ (k : List ℕ × List ℕ). SettlesFrames (sheet_between f) k.0 k.1) (λ i. (sym (output_behind first rest) i, sym (store_behind first rest) i))
      (subst (λ (line : List ℕ). SettlesFrames (sheet_between f) (line ++ output_in rest) (store_in rest)) (sym told.line)
      (settled_after told.words told.whole (told.plain is) f.start (record_between f) (sheet_between f) (pairing f.start (record_between f)).answer refl claims))
  by_answer (Faulty file m) is claims = ended
  by_answer (Different d) is claims = ended

  pub settled_frames : Claims f (account f).ending → SettlesFrames (sheet_between f) (account_text f) (account_refused f)
  settled_frames claims = by_answer (outcome f).answer refl claims

-- on a page with room for all that is printed
pub settled_onto : (s : Sheet) (text refused page now lent then : List ℕ) (n : ℕ) → SettlesFrames s text refused → n ≡ min (length text) (2 ^ 64 - 1) → now ≡ onto_page text page → then ≡ onto_page refused lent
    → length page < 2 ^ 63 → n ≤ length now → SettlesFramesOnto s (take n now) lent then
settled_onto s text refused page now lent then n settles len shown kept few room =
    (refused, kept, subst (λ (t : List ℕ). SettlesFrames s t refused) (sym (whole_text text page now n len shown room few)) settles)
