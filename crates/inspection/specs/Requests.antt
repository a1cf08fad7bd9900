-- Working through requests: one call for each, in their order, and the accepted offers among them.
use Rattle.std.specs.Prelude.{◌≡◌, ℕ, Bool, if◌then◌else◌, List, [], ◌∷◌, is_ok, Option, Result}
use Rattle.sheet.specs.declared.rows.Point.{Point}
use Rattle.sheet.specs.declared.rows.Face.{Face}
use Rattle.motion.specs.declared.shapes.Shape.{Shape}
use Rattle.motion.specs.declared.shapes.Kind.TheVariants.{Vf, Ee}
use Rattle.filters.specs.declared.first_parts.Earliest.{Earliest}
use Rattle.inspection.specs.declared.faults.OpeningFault.{OpeningFault}
use Rattle.inspection.specs.declared.faults.OfferFault.{OfferFault}
use Rattle.inspection.specs.declared.faults.WindowFault.{WindowFault}
use Rattle.inspection.specs.declared.requests.Request.{Request}
use Rattle.inspection.specs.declared.requests.Request.TheVariants as request
use Rattle.inspection.specs.declared.requests.Answer.{Answer}
use Rattle.inspection.specs.declared.requests.Answer.TheVariants as answer
use Rattle.inspection.specs.Tests.{vf_naming, ee_naming}
use Rattle.inspection.specs.States.{State}
use Rattle.inspection.specs.Offers.{OfferCall}
use Rattle.inspection.specs.Windows.{WindowAnswer, EarliestAnswer}
use Rattle.inspection.specs.Runs.{Accepted, DepthCall, history_after}

module _ (set : Shape → Bool) (ps : List Point) (fs : List Face) where
  -- a request is answered in the state s, and leaves t
  abbrev pub RequestCall : Request → Answer → State → State → Type 0
  RequestCall (request.SetDepth k) a s t =
      (r : Result (Unit {0}) OpeningFault) × ((a ≡ answer.DepthSet r)
      × DepthCall k s.core r t.core × (t.lists ≡ s.lists))
  RequestCall (request.Offer o) a s t =
      (r : Result (Unit {0}) OfferFault) × ((a ≡ answer.Offered r) × OfferCall set ps fs o s r t)
  RequestCall (request.Window Vf i) a s t =
      (r : Result (Option (ℕ × ℕ)) WindowFault) × ((a ≡ answer.Window r)
      × WindowAnswer vf_naming ps fs s.core s.lists.vf i set r × (t ≡ s))
  RequestCall (request.Window Ee i) a s t =
      (r : Result (Option (ℕ × ℕ)) WindowFault) × ((a ≡ answer.Window r)
      × WindowAnswer ee_naming ps fs s.core s.lists.ee i set r × (t ≡ s))
  RequestCall (request.Earliest Vf i) a s t =
      (r : Result Earliest WindowFault) × ((a ≡ answer.Earliest r)
      × EarliestAnswer vf_naming ps fs s.core s.lists.vf i set r × (t ≡ s))
  RequestCall (request.Earliest Ee i) a s t =
      (r : Result Earliest WindowFault) × ((a ≡ answer.Earliest r)
      × EarliestAnswer ee_naming ps fs s.core s.lists.ee i set r × (t ≡ s))

  -- as many answers as requests, each by one call, from s to t
  abbrev pub Calls : List Request → List Answer → State → State → Type 0
  Calls [] [] s t = t ≡ s
  Calls (q ∷ qs) (a ∷ rs) s t = (u : State) × (RequestCall q a s u × Calls qs rs u t)
  Calls qs rs s t = ⊥

-- the accepted offers, each with the depth then set: behind those of h, k being the depth before
abbrev pub history_from : List Accepted → ℕ → List Request → List Answer → List Accepted
history_from h k (request.SetDepth m ∷ qs) (answer.DepthSet r ∷ rs) =
    history_from h (if is_ok r then m else k) qs rs
history_from h k (request.Offer o ∷ qs) (answer.Offered r ∷ rs) =
    history_from (history_after h o k r) k qs rs
history_from h k (q ∷ qs) (a ∷ rs) = history_from h k qs rs
history_from h k qs rs = h

abbrev pub history : ℕ → List Request → List Answer → List Accepted
history k qs rs = history_from [] k qs rs
