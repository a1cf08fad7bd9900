-- Something is offered while a reviewer has an entry: the calls, one after the other, are a run.
use Rattle.std.proofs.Common.{◌≡◌, ℕ, Bool, List, [], ◌∷◌, IsOk, Ok, Err, Result, refl, sym, ◌∙◌, subst, lit<}
use Rattle.std.proofs.lemmas.Bool.{false≢true}
use Rattle.sheet.specs.declared.rows.Point.{Point}
use Rattle.sheet.specs.declared.rows.Face.{Face}
use Rattle.sheet.specs.declared.drafts.Draft.{Draft}
use Rattle.motion.specs.declared.shapes.Kind.TheVariants.{Vf}
use Rattle.motion.specs.declared.shapes.Shape.{Shape}
use Rattle.inspection.specs.declared.faults.OfferFault.{OfferFault}
use Rattle.inspection.specs.declared.faults.TakingFault.{TakingFault}
use Rattle.inspection.specs.declared.lists.Lists.{Lists}
use Rattle.inspection.specs.declared.marks.Mark.{Mark}
use Rattle.inspection.specs.declared.offerings.Offering.{Offering}
use Rattle.inspection.specs.declared.slips.Handed.TheVariants.{Seen}
use Rattle.inspection.specs.declared.slips.RefusedSlip.{RefusedSlip}
use Rattle.inspection.specs.declared.slips.Slip.{Slip}
use Rattle.inspection.specs.Claims.{Findings}
use Rattle.inspection.specs.Lists.{Contents}
use Rattle.inspection.specs.Offers.{OfferCall, state_after}
use Rattle.inspection.specs.Runs.{Accepted, Brings, Run, history_after}
use Rattle.inspection.specs.Runs.Run.{offered, taken, handed_in}
use Rattle.inspection.specs.Sheets.{Sheet, sheet_in}
use Rattle.inspection.specs.Slips.{slip_for, Takes, HandsIn, HandsInAt}
use Rattle.inspection.specs.SlipsOut.{NoneLost}
use Rattle.inspection.specs.States.{Core, State}
use Rattle.example_filter.specs.ByHand.{HandsBack, SameButMarks, OfferedMeanwhile}

abbrev at : Core → Lists → State
at c s = record { core = c; lists = s }

-- ---- the same but for marks
other_marks : {E : Type 0} (g h : Contents E) (ms : List Mark) → h ≡ record g { marks = ms } → SameButMarks g h
other_marks g h ms e = e ∙ (λ i. record g { marks = (sym e i).marks })

both_other : {E : Type 0} (g h k : Contents E) → SameButMarks g h → SameButMarks h k → SameButMarks g k
both_other g h k a b = b ∙ (λ i. record (a i) { marks = k.marks })

taken_marks : (i q : ℕ) (x : Result Slip TakingFault) (a b : Lists) → Takes Vf i q a x b → SameButMarks a.vf b.vf × (b.ee ≡ a.ee)
taken_marks i q (Ok y) a b (w, e) = (other_marks a.vf b.vf _ w.list, e)
taken_marks i q (Err f) a b (w, e) = (other_marks a.vf b.vf a.vf.marks w.list, e)

handed_marks : (y : Slip) (r : Result (Unit {0}) RefusedSlip) (a b : Lists) → HandsInAt Vf y Seen a r b → SameButMarks a.vf b.vf × (b.ee ≡ a.ee)
handed_marks y (Ok u) a b (w, e) = (other_marks a.vf b.vf _ w.list, e)
handed_marks y (Err f) a b (w, e) = (other_marks a.vf b.vf a.vf.marks w.list, e)

module _ (set : Shape → Bool) (ps : List Point) (fs : List Face) (o : Offering) (i q : ℕ) where
  -- an offer reads no mark
  offered_marks : (c d : Core) (a b : Lists) (r : Result (Unit {0}) OfferFault) (ms : List Mark)
      → OfferCall set ps fs o (at c (record { vf = record a.vf { marks = ms }; ee = a.ee })) r (at d b)
      → (u : State) × OfferCall set ps fs o (at c a) r u × (d ≡ u.core) × SameButMarks u.lists.vf b.vf × (b.ee ≡ u.lists.ee)
  offered_marks c d a b (Ok u) ms w =
      let t = state_after set (sheet_in c.draft ps fs) o (at c a) in
      (t, record { fault = w.fault; state = refl }, (λ j. (w.state j).core), other_marks t.lists.vf b.vf _ (λ j. (w.state j).lists.vf), (λ j. (w.state j).lists.ee))
  offered_marks c d a b (Err f) ms w =
      (at c a, record { fault = w.fault; state = refl }, (λ j. (w.state j).core), other_marks a.vf b.vf ms (λ j. (w.state j).lists.vf), (λ j. (w.state j).lists.ee))

  -- it is taken (a to b), offered (b to k), and handed in (k to l)
  module _ (c d : Core) (a b k l : Lists) (x : Result Slip TakingFault) (r : Result (Unit {0}) OfferFault)
      (take : Takes Vf i q a x b) (offer : OfferCall set ps fs o (at c b) r (at d k)) (back : HandsBack x k l) where
    back_marks : SameButMarks k.vf l.vf × (l.ee ≡ k.ee)
    back_marks = go x take back
      where
        go : (x : Result Slip TakingFault) → Takes Vf i q a x b → HandsBack x k l → SameButMarks k.vf l.vf × (l.ee ≡ k.ee)
        go (Ok y) w (p, h) = handed_marks (slip_for Vf i q) p k l (subst (λ (z : Slip). HandsIn z Seen k p l) w.0.slip h)
        go (Err f) w e = (other_marks k.vf l.vf k.vf.marks (λ j. (e j).vf), λ j. (e j).ee)

    module _ (lost : NoneLost k) (draft : Draft) (sheet : Sheet) (h : List Accepted) (brings : Brings draft ps fs sheet) (run : Run set draft sheet h [] (at c a)) where
      abbrev After : List Slip → Lists → Type 0
      After out s = Run set draft sheet (history_after h o c.depth r) out (at d s)

      -- a slip that is out is accepted
      accepted : (y : Slip) (p : Result (Unit {0}) RefusedSlip) → HandsIn y Seen k p l → IsOk p → After (y ∷ []) k → After [] l
      accepted y (Ok u) e z two = handed_in [] [] y Seen (Ok u) (at d l) two e refl
      accepted y (Err f) e z two = absurd (false≢true z)

      goes_on : After [] l
      goes_on = go x take back
        where
          go : (x : Result Slip TakingFault) → Takes Vf i q a x b → HandsBack x k l → After [] l
          go (Ok y) w (p, e) =
              let two : After (y ∷ []) k = offered ps fs o r (at d k) (taken Vf i q (Ok y) (at c b) run w refl) brings offer in
              accepted y p e ((lost set draft sheet (history_after h o c.depth r) (y ∷ []) (at d k) two refl).accepted y (0, lit< tt, refl) Seen p l e) two
          go (Err f) w e = subst (After []) (sym e) (offered ps fs o r (at d k) (taken Vf i q (Err f) (at c b) run w refl) brings offer)

    -- and all but marks is as without the taking
    pub meanwhile : NoneLost k → Findings set (at d l) → OfferedMeanwhile set ps fs o (at c a) r (at d l)
    meanwhile lost found =
        let own = taken_marks i q x a b take in
        let (u, call, core, vf, ee) = offered_marks c d a k r b.vf.marks (subst (λ (z : Lists). OfferCall set ps fs o (at c z) r (at d k)) (λ j. record { vf = own.0 j; ee = own.1 j }) offer) in
        record {
          after = u;
          offer = call;
          core = core;
          vf = both_other u.lists.vf k.vf l.vf vf back_marks.0;
          ee = back_marks.1 ∙ ee;
          run = goes_on lost;
          claim = λ draft sheet h brings run. found draft sheet (history_after h o c.depth r) [] (goes_on lost draft sheet h brings run);
        }
