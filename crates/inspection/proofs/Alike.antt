-- What requests are answered, and what is left, is settled by which tests are struck.
use Rattle.std.proofs.Common.{◌≡◌, ℕ, ◌≤◌, Bool, cond, is_ok, List, [], ◌∷◌, take, Some, None, Option, Result, sym, refl, ap, ◌∙◌, subst, ⊎_elim, arith}
use Rattle.std.specs.Prelude.{IfOk, slice_get}
use Rattle.std.proofs.lemmas.Option.{slice_get_cases}
use Rattle.sheet.specs.Checks.{first_fit, fault_notice}
use Rattle.sheet.specs.declared.rows.Point.{Point}
use Rattle.sheet.specs.declared.rows.Face.{Face}
use Rattle.motion.specs.declared.shapes.Shape.{Shape}
use Rattle.motion.specs.declared.shapes.Kind.TheVariants.{Vf, Ee}
use Rattle.filters.specs.declared.first_parts.Earliest.{Earliest}
use Rattle.filters.specs.FirstParts.{earliest_at}
use Rattle.inspection.specs.declared.faults.OpeningFault.{OpeningFault}
use Rattle.inspection.specs.declared.faults.OfferFault.{OfferFault}
use Rattle.inspection.specs.declared.faults.WindowFault.{WindowFault}
use Rattle.inspection.specs.declared.requests.Request.{Request}
use Rattle.inspection.specs.declared.requests.Request.TheVariants as request
use Rattle.inspection.specs.declared.requests.Answer.{Answer}
use Rattle.inspection.specs.declared.requests.Answer.TheVariants as answer
use Rattle.inspection.specs.Alike.{AnswersAlike}
use Rattle.inspection.specs.Claims.{Agree}
use Rattle.inspection.specs.Faults.{notice_of_offer, notice_of_window}
use Rattle.inspection.specs.Lists.{Contents}
use Rattle.inspection.specs.Offerings.{Offering}
use Rattle.inspection.specs.Offers.{offer_checks, state_after, OfferCall}
use Rattle.inspection.specs.Requests.{RequestCall, Calls}
use Rattle.inspection.specs.Runs.{DepthCall}
use Rattle.inspection.specs.Sheets.{Sheet, sheet_in}
use Rattle.inspection.specs.States.{Core, State, with_depth}
use Rattle.inspection.specs.Tests.{Naming, vf_naming, ee_naming}
use Rattle.inspection.specs.Windows.{WindowAnswer, EarliestAnswer, window_checks, window_of}
use Rattle.inspection.proofs.Agreeing.{FindSame, agreeing}
use Rattle.inspection.proofs.Coordinates.{points_near}
use Rattle.inspection.proofs.NamingLaws.{NamingLaws, vf_laws, ee_laws}

-- ---- what is answered is settled by the notice of its fault, and by its value where it has none
offer_settled : (a b : Result (Unit {0}) OfferFault) → fault_notice notice_of_offer a ≡ fault_notice notice_of_offer b → a ≡ b
offer_settled a b e = grind arith

window_settled : {X : Type 0} (x : X) (a b : Result X WindowFault) → fault_notice notice_of_window a ≡ fault_notice notice_of_window b → IfOk a (λ y. y ≡ x) → IfOk b (λ y. y ≡ x) → a ≡ b
window_settled x a b e p q = grind arith

-- ---- each call
pub depth-settled : (k : ℕ) (c b d : Core) (r q : Result (Unit {0}) OpeningFault) → DepthCall k c r b → DepthCall k c q d → (q ≡ r) × (d ≡ b)
depth-settled k c b d r q v w =
    let e : q ≡ r = grind (arith, v.fault, w.fault) in
    (e, w.core ∙ (λ i. cond (is_ok (e i)) (with_depth k c) c) ∙ sym v.core)

-- ---- by two sets
module _ (set set' : Shape → Bool) (ps : List Point) (fs : List Face) where
  module _ (o : Offering) (s : State) where
    abbrev sheet : Sheet
    sheet = sheet_in s.core.draft ps fs

    module _ (v : FindSame set set' vf_naming sheet s.core.depth) (e : FindSame set set' ee_naming sheet s.core.depth) where
      checks : first_fit (offer_checks set' ps fs o s) ≡ first_fit (offer_checks set ps fs o s)
      checks = rw (v.entries o s.lists.vf.entries, e.entries o s.lists.ee.entries) refl

      after : state_after set' sheet o s ≡ state_after set sheet o s
      after = rw (v.entries o s.lists.vf.entries, e.entries o s.lists.ee.entries, v.tally o s.lists.vf.entries, e.tally o s.lists.ee.entries) refl

    offer-settled : FindSame set set' vf_naming sheet s.core.depth → FindSame set set' ee_naming sheet s.core.depth
        → (t u : State) (r q : Result (Unit {0}) OfferFault) → OfferCall set ps fs o s r t → OfferCall set' ps fs o s q u → (q ≡ r) × (u ≡ t)
    offer-settled v e t u r q a b =
        let is = offer_settled q r (b.fault ∙ checks v e ∙ sym a.fault) in
        (is, b.state ∙ (λ i. cond (is_ok (is i)) (after v e i) s) ∙ sym a.state)

  module _ {E : Type 0} (n : Naming E) (c : Core) (same : FindSame set set' n (sheet_in c.draft ps fs) c.depth) (h : Contents E) (i : ℕ) where
    abbrev shape : E → Shape
    shape e = n.shape (sheet_in c.draft ps fs) e

    window-settled : (r q : Result (Option (ℕ × ℕ)) WindowFault) → WindowAnswer n ps fs c h i set r → WindowAnswer n ps fs c h i set' q → q ≡ r
    window-settled r q v w =
        window_settled (window_of set c.depth shape (slice_get h.entries i)) q r (w.fault ∙ sym v.fault)
        (subst (λ (x : Option (ℕ × ℕ)). IfOk q (λ y. y ≡ x)) (found (slice_get h.entries i)) w.value) v.value
      where
        found : (o : Option E) → window_of set' c.depth shape o ≡ window_of set c.depth shape o
        found None = refl
        found (Some e) = same.windows e

    earliest-settled : (r q : Result Earliest WindowFault) → EarliestAnswer n ps fs c h i set r → EarliestAnswer n ps fs c h i set' q → q ≡ r
    unfolding window_checks
    earliest-settled r q v w =
        ⊎_elim
        (λ (e, l, is, at). window_settled (earliest_at set c.depth (shape e)) q r (w.fault ∙ sym v.fault) (rw (is, same.earliests e) at w.value) (rw is at v.value))
        (λ (l, none). grind (arith, v.fault, w.fault, l)) (slice_get_cases h.entries i).1

  pub request-settled : (q : Request) (a b : Answer) (s t u : State) → FindSame set set' vf_naming (sheet_in s.core.draft ps fs) s.core.depth
      → FindSame set set' ee_naming (sheet_in s.core.draft ps fs) s.core.depth → RequestCall set ps fs q a s t → RequestCall set' ps fs q b s u → (b ≡ a) × (u ≡ t)
  request-settled (request.SetDepth k) a b s t u vf ee (r, (e, c, v)) (q, (f, d, x)) =
      let p = depth-settled k s.core t.core u.core r q c d in
      (f ∙ ap answer.DepthSet p.0 ∙ sym e, λ i. record { core = p.1 i; lists = (x ∙ sym v) i })
  request-settled (request.Offer o) a b s t u vf ee (r, (e, c)) (q, (f, d)) = let p = offer-settled o s vf ee t u r q c d in (f ∙ ap answer.Offered p.0 ∙ sym e, p.1)
  request-settled (request.Window Vf i) a b s t u vf ee (r, (e, c, v)) (q, (f, d, w)) = (f ∙ ap answer.Window (window-settled vf_naming s.core vf s.lists.vf i r q c d) ∙ sym e, w ∙ sym v)
  request-settled (request.Window Ee i) a b s t u vf ee (r, (e, c, v)) (q, (f, d, w)) = (f ∙ ap answer.Window (window-settled ee_naming s.core ee s.lists.ee i r q c d) ∙ sym e, w ∙ sym v)
  request-settled (request.Earliest Vf i) a b s t u vf ee (r, (e, c, v)) (q, (f, d, w)) = (f ∙ ap answer.Earliest (earliest-settled vf_naming s.core vf s.lists.vf i r q c d) ∙ sym e, w ∙ sym v)
  request-settled (request.Earliest Ee i) a b s t u vf ee (r, (e, c, v)) (q, (f, d, w)) = (f ∙ ap answer.Earliest (earliest-settled ee_naming s.core ee s.lists.ee i r q c d) ∙ sym e, w ∙ sym v)

-- ---- requests, at depths that an inspection may have
module _ (set set' : Shape → Bool) (same : Agree set set') (ps : List Point) (fs : List Face) where
  found : {E : Type 0} (n : Naming E) (each : ℕ) (c : Core) → NamingLaws n each (sheet_in c.draft ps fs) → c.depth ≤ 6 → FindSame set set' n (sheet_in c.draft ps fs) c.depth
  found n each c named low = agreeing set set' same n each (sheet_in c.draft ps fs) named (points_near (take c.draft.points ps) (take c.draft.faces fs)) c.depth low

  -- no request sets a depth that is refused
  low-after : (q : Request) (a : Answer) (s t : State) → RequestCall set ps fs q a s t → s.core.depth ≤ 6 → t.core.depth ≤ 6
  low-after (request.SetDepth k) a s t (r, (e, c, v)) low = grind (arith, c.core, c.fault, low)
  low-after (request.Offer o) a s t (r, (e, c)) low = grind (arith, c.state, low)
  low-after (request.Window Vf i) a s t (r, (e, c, v)) low = rw v low
  low-after (request.Window Ee i) a s t (r, (e, c, v)) low = rw v low
  low-after (request.Earliest Vf i) a s t (r, (e, c, v)) low = rw v low
  low-after (request.Earliest Ee i) a s t (r, (e, c, v)) low = rw v low

  calls-settled : (qs : List Request) (rs bs : List Answer) (s t u : State) → s.core.depth ≤ 6 → Calls set ps fs qs rs s t → Calls set' ps fs qs bs s u → (bs ≡ rs) × (u ≡ t)
  calls-settled [] [] [] s t u low c d = (refl, d ∙ sym c)
  calls-settled [] [] (b ∷ bs) s t u low c d = absurd d
  calls-settled [] (r ∷ rs) bs s t u low c d = absurd c
  calls-settled (q ∷ qs) [] bs s t u low c d = absurd c
  calls-settled (q ∷ qs) (r ∷ rs) [] s t u low c d = absurd d
  calls-settled (q ∷ qs) (r ∷ rs) (b ∷ bs) s t u low (m, (c, v)) (n, (d, w)) =
      let here = sheet_in s.core.draft ps fs in
      let p = request-settled set set' ps fs q r b s m n (found vf_naming 6 s.core (vf_laws here) low) (found ee_naming 9 s.core (ee_laws here) low) c d in
      let rest = calls-settled qs rs bs m t u (low-after q r s m c low) v (subst (λ (z : State). Calls set' ps fs qs bs z u) p.1 w) in
      ((λ i. p.0 i ∷ rest.0 i), rest.1)

pub answers-alike : (set : Shape → Bool) (ps : List Point) (fs : List Face) (qs : List Request) (rs : List Answer) (s t : State) → s.core.depth ≤ 6 → Calls set ps fs qs rs s t
    → AnswersAlike set ps fs qs s rs t
answers-alike set ps fs qs rs s t low c other same answers u d = calls-settled set other same ps fs qs rs answers s t u low c d
