-- What a run over rows prints and stores is what the account of two frames says.
use Rattle.std.proofs.Common.{◌≡◌, ℕ, ◌≤◌, List, [], ◌++◌, length, map, flat_map, Some, None, Option, unwrap_or, IsFalse, ◌||◌, refl, sym, ap, ◌∙◌, subst}
use Rattle.std.proofs.lemmas.Bool.{le-ltb}
use Rattle.hosts.specs.Writing.{printing, or_tells}
use Rattle.sheet.specs.declared.drafts.Draft.{Draft}
use Rattle.sheet.specs.declared.notices.Notice.{Notice}
use Rattle.sheet.specs.declared.rows.Point.{Point}
use Rattle.sheet.specs.declared.rows.Face.{Face}
use Rattle.motion.specs.Rows.{delivered}
use Rattle.inspection.specs.Claims.{WholeClaim}
use Rattle.inspection.specs.Offers.{lacks_rows}
use Rattle.inspection.specs.Sheets.{Sheet, sheet_in}
use Rattle.near_faces.specs.declared.pairs.Pair.{Pair}
use Rattle.near_faces.specs.Near.{near_pairs}
use Rattle.report.specs.Reports.{report_text}
use Rattle.frames.specs.Frames.{Frames, no_step, step_between}
use Rattle.frames.specs.Outcomes.{with_line_feed, line_of_step, no_step_line, unrecorded, outcome_by}
use Rattle.frames.specs.Reading.{HoldsStep}
use Rattle.frames.specs.declared.frame_files.NoStep.{NoStep}
use Rattle.frames.specs.declared.frame_files.NoStep.TheVariants.{Faulty, Different}
use Rattle.pairing.specs.Pairings.{paired, pairing, pairs_bytes, pairs_line, told_fault}
use Rattle.pairing.specs.inner.Tables.{pairing_in}
use Rattle.pairing.proofs.Near.{same_pairing}
use Rattle.plan.specs.Plans.{Plan, plan, draft, sheet}
use Rattle.plan.specs.Reading.{HoldsPlan}
use Rattle.works.specs.inspect.Plans.{plan_written, plan_written_by, walk}
use Rattle.near_faces.specs.Near.{offering_of}
use Rattle.works.specs.inspect.Rows.{walk_over, rows_written}
use Rattle.works.specs.inspect.Walks.{Walk, just_opened, walked, refusal_written}
use Rattle.works.specs.two_frames.Accounts.{Account, account, after_recording, after_pairing, behind, ends_refusing, ends_there, inspected, paired_plan, record_between, searched, ending_by, Claims, ClaimsOver}
use Rattle.works.specs.two_frames.Works.{without_step, pairs_account, PairsEnd, search_account, SearchEnds, search_fault_in, step_account}
use Rattle.works.specs.declared.two_frames.endings.FramesEnding.{FramesEnding}
use Rattle.works.proofs.of_frames.Covered.{offered, claims_so}
use Rattle.works.proofs.of_frames.Stepped.{same_outcome, holds, same_sheet}

-- ---- where there is no step
module _ (f : Frames) (why : NoStep) (is : no_step f ≡ Some why) where
  ends : (why : NoStep) (rest : Account) → after_recording (with_line_feed (no_step_line why)) (unrecorded why) rest ≡ ends_there (with_line_feed (no_step_line why)) (without_step why)
  ends (Faulty file n) rest = refl
  ends (Different d) rest = refl

  pub no_step_account : account f ≡ ends_there (with_line_feed (no_step_line why)) (without_step why)
  no_step_account =
      ap (λ o. let o = outcome_by o (step_between f) in after_recording o.line o.answer (searched f.start (record_between f))) is
      ∙ ends why (searched f.start (record_between f))

  none_claimed : (why : NoStep) → Claims f (without_step why)
  none_claimed (Faulty file n) = tt
  none_claimed (Different d) = tt

  pub no_step_claims : Claims f (without_step why)
  no_step_claims = none_claimed why

-- ---- where tables hold the step
module _ (f : Frames) (d : Draft) (ps : List Point) (fs : List Face) (h : HoldsStep f ps fs d) (points : d.points ≤ length ps) (faces : d.faces ≤ length fs) where
  abbrev s : Sheet
  s = sheet_in d ps fs

  abbrev near : List Pair
  near = near_pairs s

  abbrev p : Plan
  p = paired_plan f.start (record_between f)

  held : (pairs : List ℕ) → HoldsPlan (plan f.start (record_between f) pairs) d ps fs
  held pairs = holds f h.is_step pairs d ps fs h

  rows : IsFalse (lacks_rows d ps fs)
  rows = λ i. le-ltb (length ps) d.points points i || le-ltb (length fs) d.faces faces i

  -- the search
  same : (x : Option Notice) → search_fault_in d ps fs ≡ x → or_tells x told_fault (paired d.faces near) ≡ pairing f.start (record_between f)
  unfolding pairing_in
  same x is = ap (λ x. or_tells x told_fault (paired d.faces near)) (sym is) ∙ same_pairing (plan f.start (record_between f) []) d ps fs (held []) rows

  -- the pairs that it finds
  module _ (none : search_fault_in d ps fs ≡ None) where
    h' : HoldsPlan p d ps fs
    h' = held (unwrap_or (pairing f.start (record_between f)).stored [])

    all_near : p.pairs ≡ pairs_bytes (near_pairs (sheet p))
    all_near = sym (ap (λ o. unwrap_or o.stored []) (same None none)) ∙ ap (λ (s : Sheet). pairs_bytes (near_pairs s)) h'.sheet

    same_walk : walk_over d s (map offering_of near) ≡ walk p
    same_walk =
        (λ i. walked delivered (h'.sheet i) (just_opened (h'.draft i)) (map offering_of (near_pairs (h'.sheet i))))
        ∙ ap (walked delivered (sheet p) (just_opened (draft p))) (sym (offered p h'.no_fault all_near))

    same_written : rows_written d s (map offering_of near) ≡ plan_written p
    same_written =
        (λ i. let w = same_walk i in
        flat_map refusal_written w.refused ++ printing (report_text (record { set = delivered; core = w.found.core; sheet = h'.sheet i }) w.found.entries))
        ∙ sym (ap (plan_written_by p) h'.no_fault)

    pub same_inspected : pairs_account d ps fs near ≡ behind (pairs_line d.faces (length near)) (inspected p)
    same_inspected = λ i. behind (pairs_line d.faces (length near)) (ends_refusing (same_written i) (length (same_walk i).refused))

    claimed : (e : FramesEnding) → PairsEnd d ps fs near e → ClaimsOver (sheet p) p e
    claimed e end =
        claims_so p h'.no_fault all_near
        (λ good. subst (λ (k : Draft × Sheet × Walk). WholeClaim delivered k.0 k.1 k.2.accepted k.2.found.core k.2.found.entries.vf k.2.found.entries.ee) (λ i. (h'.draft i, h'.sheet i, same_walk i)) end.claim)
        e (end.ending ∙ ap (λ (w : Walk). ending_by (length w.refused)) same_walk)

  by_fault : (x : Option Notice) → search_fault_in d ps fs ≡ x → search_account d ps fs x ≡ searched f.start (record_between f)
  by_fault (Some n) is = ap (λ o. after_pairing o.line o.answer (inspected p)) (same (Some n) is)
  by_fault None is = same_inspected is ∙ ap (λ o. after_pairing o.line o.answer (inspected p)) (same None is)

  pub same_account : step_account d ps fs ≡ account f
  same_account =
      (λ i. behind (with_line_feed (line_of_step (h.points i))) (by_fault (search_fault_in d ps fs) refl i))
      ∙ sym (ap (λ o. after_recording o.line o.answer (searched f.start (record_between f))) (same_outcome f h.is_step))

  claims_by : (x : Option Notice) → search_fault_in d ps fs ≡ x → (e : FramesEnding) → SearchEnds d ps fs x e → Claims f e
  claims_by (Some n) is e end = subst (Claims f) (sym end) tt
  claims_by None is e end =
      subst (λ (t : Sheet). ClaimsOver t p e) (same_sheet f h.is_step (unwrap_or (pairing f.start (record_between f)).stored [])) (claimed is e end)

  ends_by : (x : Option Notice) (e : FramesEnding) → SearchEnds d ps fs x e → e ≡ (search_account d ps fs x).ending
  ends_by (Some n) e end = end
  ends_by None e end = end.ending

  pub step_claims : (e : FramesEnding) → SearchEnds d ps fs (search_fault_in d ps fs) e → Claims f e
  step_claims e = claims_by (search_fault_in d ps fs) refl e

  pub step_ending : (e : FramesEnding) → SearchEnds d ps fs (search_fault_in d ps fs) e → e ≡ (account f).ending
  step_ending e end = ends_by (search_fault_in d ps fs) e end ∙ ap (λ (a : Account). a.ending) same_account
