-- Two offers that are refused leave all as it was.
use Rattle.std.proofs.Common.{◌≡◌, ℕ, ◌≤◌, Bool, nat_lt, List, length, Ok, Err, Result, refl, sym, ltb-false, arith}
use Rattle.std.proofs.lemmas.Bool.{or_parts, eqb-false, leb-false}
use Rattle.sheet.proofs.FirstFit.{none_fits}
use Rattle.sheet.specs.declared.rows.Point.{Point}
use Rattle.sheet.specs.declared.rows.Face.{Face}
use Rattle.motion.specs.declared.shapes.Shape.{Shape}
use Rattle.inspection.specs.declared.faults.OfferFault.{OfferFault}
use Rattle.inspection.specs.declared.offerings.Offering.TheVariants.{Faces}
use Rattle.inspection.specs.States.{State}
use Rattle.inspection.specs.Offers.{offer_checks, OfferCall}

module _ (set : Shape → Bool) (ps : List Point) (fs : List Face) (f : ℕ) (s t : State) where
  -- a face with itself
  pub itself : (r : Result (Unit {0}) OfferFault) → OfferCall set ps fs (Faces f f) s r t → t ≡ s
  itself (Ok u) p = absurd (eqb-false f f (none_fits (offer_checks set ps fs (Faces f f) s) (sym p.fault)).1.1.1.0 refl)
  itself (Err e) p = p.state

  -- over a table that is too short to have the first face
  pub cut_short : (g : ℕ) (r : Result (Unit {0}) OfferFault) → length fs ≤ f → OfferCall set ps fs (Faces f g) s r t → t ≡ s
  cut_short g (Ok u) h p =
      let none = none_fits (offer_checks set ps fs (Faces f g) s) (sym p.fault) in
      let rows = or_parts (nat_lt (length ps) s.core.draft.points) (nat_lt (length fs) s.core.draft.faces) none.0 in
      absurd (omega (arith, h, ltb-false (length fs) s.core.draft.faces rows.1, leb-false s.core.draft.faces f none.1.0))
  cut_short g (Err e) h p = p.state
