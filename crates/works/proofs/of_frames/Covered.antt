-- A plan that has all near pairs and refuses none covers its whole sheet.
use Rattle.std.proofs.Common.{◌≡◌, ℕ, Bool, true, false, cond, eqb, eqb-true, List, [], ◌∷◌, length, map, All, Any, None, refl, sym, ap, ◌∙◌, subst, arith}
use Rattle.std.proofs.lemmas.List.{length-map, nil_from_length}
use Rattle.std.proofs.lemmas.List.Elements.{All-weaker, All-nil, All-cons, All-head, All-tail}
use Rattle.motion.specs.Rows.{delivered}
use Rattle.inspection.specs.declared.offerings.Offering.{Offering}
use Rattle.inspection.specs.Offerings.{SameOffering}
use Rattle.inspection.specs.Runs.{Accepted}
use Rattle.near_faces.specs.declared.pairs.Pair.{Pair}
use Rattle.near_faces.specs.Boxes.{swept_box, swept_boxes}
use Rattle.near_faces.specs.Covering.{WholeSheetApart}
use Rattle.near_faces.specs.Near.{near_pairs}
use Rattle.near_faces.proofs.Completing.{complete}
use Rattle.plan.specs.PairBytes.{offerings_in}
use Rattle.plan.specs.Plans.{Plan, draft, faces, fault, sheet_fault, step_fault, sheet}
use Rattle.works.specs.inspect.Plans.{walk, ClaimOfPlan}
use Rattle.works.specs.inspect.Walks.{just_opened}
use Rattle.works.proofs.of_a_plan.Settling.{same_itself}
use Rattle.works.proofs.of_a_plan.Sorting.{HasAccepted, all_accepted}
use Rattle.works.specs.two_frames.Accounts.{refused_count, ending_by, ClaimsOver}
use Rattle.works.specs.declared.two_frames.endings.FramesEnding.{FramesEnding}
use Rattle.works.specs.declared.two_frames.endings.FramesEnding.TheVariants.{Covered, Refused}
use Rattle.near_faces.specs.Near.{offering_of}
use Rattle.pairing.specs.Pairings.{pairs_bytes}
use Rattle.pairing.proofs.Near.{is_sheet, sheet_first, covered as covers}
use Rattle.pairing.proofs.PairBytes.{read_back}

-- what all of the offerings have, each pair has
pub each_pair : (P : Offering → Type 0) (qs : List Pair) → All P (map offering_of qs) → All (λ q. P (offering_of q)) qs
each_pair P [] all = All-nil (λ q. P (offering_of q))
each_pair P (q ∷ qs) all =
    All-cons (λ q. P (offering_of q)) q qs (All-head P (offering_of q) (map offering_of qs) all) (each_pair P qs (All-tail P (offering_of q) (map offering_of qs) all))

module _ (p : Plan) (good : fault p ≡ None) (all_near : p.pairs ≡ pairs_bytes (near_pairs (sheet p))) where
  abbrev pub near_ones : List Pair
  near_ones = near_pairs (sheet p)

  pub offered : offerings_in p.pairs ≡ map offering_of near_ones
  offered =
      let few = (is_sheet p (sheet_first p (sheet_fault p) (step_fault p) good)).face_count in
      ap offerings_in all_near ∙ read_back (swept_boxes (sheet p)) (omega (arith, few, length-map (faces p) (swept_box (sheet p)))) near_ones (complete (swept_boxes (sheet p))).only

  pub covered : ClaimOfPlan p → length (walk p).refused ≡ 0 → let found = (walk p).found in WholeSheetApart (sheet p) found.entries.vf found.entries.ee
  covered claim none =
      let w = walk p in
      let no_refusal = nil_from_length w.refused none in
      let accepted : All (HasAccepted w) (map offering_of near_ones) = subst (λ (os : List Offering). All (HasAccepted w) os) offered (all_accepted delivered (sheet p) (just_opened (draft p)) (offerings_in p.pairs) no_refusal) in
      (covers p).claims delivered w.accepted w.found.core w.found.entries.vf w.found.entries.ee (claim good).claim
      (All-weaker (λ q. HasAccepted w (offering_of q)) (λ q. Any (λ (o : Accepted). SameOffering (offering_of q) o.what) w.accepted)
      (λ q (k, a, here, is, same). (k, a, here, is, subst (SameOffering (offering_of q)) (sym same) (same_itself (offering_of q)))) near_ones (each_pair (HasAccepted w) near_ones accepted))

  -- ---- what a run may claim by how many pairs are refused
  module _ (claim : ClaimOfPlan p) where
    by_test : (n : ℕ) (t : Bool) → eqb n 0 ≡ t → refused_count p ≡ n → ClaimsOver (sheet p) p (cond t Covered (Refused n))
    by_test n true none is_n = (refl, covered claim (is_n ∙ eqb-true n 0 none), claim)
    by_test n false some is_n = (refl, (covers p).far, claim)

    pub claims_so : (e : FramesEnding) → e ≡ ending_by (refused_count p) → ClaimsOver (sheet p) p e
    claims_so e is_e = subst (ClaimsOver (sheet p) p) (sym is_e) (let n = refused_count p in by_test n (eqb n 0) refl refl)
