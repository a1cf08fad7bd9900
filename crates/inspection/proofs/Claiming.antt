-- The claim, for every set that keeps the laws.
use Rattle.std.proofs.Common.{◌≡◌, ◌⊎◌, ℕ, ◌+◌, ◌<◌, ◌≤◌, Bool, true, false, List, All, Any, get_or, length, sym, refl, ◌∙◌, inl, inr, ⊎_elim, subst, arith}
use Rattle.std.proofs.lemmas.Bool.{cases_Bool, both_ways, false_from_ne_true}
use Rattle.std.proofs.lemmas.Option.{slice_get_within, slice_get-get_or, slice_get_read, get_or_from_slice_get}
use Rattle.sheet.specs.declared.drafts.Draft.{Draft}
use Rattle.motion.specs.declared.shapes.Shape.{Shape}
use Rattle.motion.specs.Laws.{Lawful, Apart}
use Rattle.motion.specs.Depths.{struck_at, Struck}
use Rattle.motion.proofs.DepthLaws.{struck}
use Rattle.inspection.specs.declared.classes.Tally.{Tally}
use Rattle.inspection.specs.declared.slips.Slip.{Slip}
use Rattle.motion.specs.declared.shapes.Kind.TheVariants.{Vf, Ee}
use Rattle.inspection.specs.Tallies.{tally_in}
use Rattle.inspection.specs.Offerings.{SameOffering}
use Rattle.inspection.specs.Sheets.{Sheet}
use Rattle.inspection.specs.Tests.{Naming, vf_naming, ee_naming}
use Rattle.inspection.specs.Lists.{has}
use Rattle.inspection.specs.States.{State}
use Rattle.inspection.specs.Runs.{Accepted, Run}
use Rattle.inspection.specs.Claims.{StandsBefore, PassedAt, ClaimOfKind, Agree, MatchesOffers, Covers, WholeClaim}
use Rattle.inspection.proofs.Agreeing.{struck_agree}
use Rattle.inspection.proofs.NamingLaws.{NamingLaws, alike, vf_laws, ee_laws}
use Rattle.inspection.proofs.Gathering.{At, at-all, Upto, gathered, passed-as}
use Rattle.inspection.proofs.Moments.{KindSoFar, OfferFacts, moment}

-- ---- what the tests of one kind and their list owe, at the end of a run
never : (i j : ℕ) → StandsBefore i j i j → ⊥
never i j b = grind arith

module _ {E : Type 0} (n : Naming E) (each : ℕ) (sheet : Sheet) (named : NamingLaws n each sheet) where
  -- at the depth of an offer
  fits : (x : E) (d : ℕ) → d ≤ 6 → (n.shape sheet x).scale + d ≤ 6
  fits x d h = omega (arith, named.scale x)

  module _ (set : Shape → Bool) (law : Lawful set) (h : List Accepted) (facts : All (OfferFacts sheet) h) (es : List E) (t : Tally) (k : KindSoFar n each set sheet h es t) where
    -- what was passed is listed, and what is listed was passed
    abbrev u : Upto n set sheet each named h (length h) 0 es
    u = subst (Upto n set sheet each named h (length h) 0) (sym k.entries) (gathered n set sheet each named h)

    all-passed : (e : E) (i j : ℕ) → PassedAt n set sheet h e i j → has n.same e es ≡ true
    all-passed e i j w = u.passed e i j w (inl (slice_get_within h i w.offer w.accepted))

    -- a test of an accepted offer that is not shared is struck there, or listed
    judged : (i j : ℕ) (o : Accepted) (x : E) → At h i o → At (n.tests sheet o.what) j x → n.shared sheet x ≡ false
        → Struck set o.depth (n.shape sheet x) ⊎ ((e : E) → n.same e x ≡ true → has n.same e es ≡ true)
    judged i j o x a b c =
        let f = at-all (OfferFacts sheet) h i o facts a in
        ⊎_elim (λ s. inl (struck set law o.depth (n.shape sheet x) (named.valid f.near x) (fits x o.depth f.shallow) s))
        (λ s. inr (λ e is. all-passed e i j (record { offer = o; test = x; accepted = a; holds = b; same = is; unshared = c; passed = s })))
        (cases_Bool (struck_at set o.depth (n.shape sheet x)))

    kept : ClaimOfKind n set sheet h each es t
    kept =
        record {
          apart = λ i o a j e b. let p = get_or h i o in stays i j p (get_or (n.tests sheet p.what) j e) (slice_get-get_or h i o a) (slice_get-get_or (n.tests sheet p.what) j e b);
          listed = λ e. (λ t. let (i, (j, (w, b))) = u.listed e t in (i, (j, w)), λ (i, (j, w)). all-passed e i j w);
          once = once;
          order = u.order;
          classes = k.classes;
          counts = k.counts;
        }
      where
        -- of two that are the same, each would be passed before the other
        once : (a b : ℕ) (d : E) → a < b → b < length es → n.same (get_or es a d) (get_or es b d) ≡ false
        once a b d s t =
            let x = get_or es a d in
            let y = get_or es b d in
            let (i, (j, (w, f))) = u.order a b d s t in
            false_from_ne_true (n.same x y) (λ is. never i j (f i j (passed-as n set sheet each named h y x i j (named.equivalence.symm y x ∙ is) w)))

        stays : (i j : ℕ) (o : Accepted) (e : E) → At h i o → At (n.tests sheet o.what) j e → n.shared sheet e ≡ false → has n.same e es ≡ false → Apart (n.shape sheet e)
        stays i j o e a b c d = ⊎_elim (λ s. s.apart) (λ l. absurd (both_ways (has n.same e es) d (l e (named.equivalence.refl e)))) (judged i j o e a b c)

    -- what another claim lists, by a set that agrees
    covers : (set' : Shape → Bool) → Agree set set' → (other : List Accepted) → All (λ o. o.depth ≤ 6) other → (others : List E) (t' : Tally) → ClaimOfKind n set' sheet other each others t'
        → MatchesOffers h other → Covers n.same es others
    covers set' same other depths others t' c answered e t =
        let (i, (j, w)) = (c.listed e).0 t in
        let (k, p, a, is, (same_pair, deep)) = at-all (λ o. Any (λ p. SameOffering o.what p.what × (p.depth ≤ o.depth)) h) other i w.offer answered w.accepted in
        let ts : List E = n.tests sheet w.offer.what in
        let x = w.test in
        let (l, d, at) = alike n each sheet named w.offer.what p.what same_pair x (j, slice_get_within ts j x w.holds, get_or_from_slice_get ts j x x w.holds) w.unshared in
        let here : At h k p = slice_get_read h (length h) k p refl a (sym is) in
        let low = fits x w.offer.depth (at-all (λ o. o.depth ≤ 6) other i w.offer depths w.accepted) in
        let near = (at-all (OfferFacts sheet) h k p facts here).near in
        let passed : struck_at set w.offer.depth (n.shape sheet x) ≡ false = sym (struck_agree set set' same w.offer.depth (n.shape sheet x) (named.valid near x) low) ∙ w.passed in
        ⊎_elim (λ s. absurd (both_ways (struck_at set w.offer.depth (n.shape sheet x)) passed (s.deeper w.offer.depth deep low))) (λ l. l e w.same)
        (judged k l p x here (slice_get_read (n.tests sheet p.what) (length (n.tests sheet p.what)) l x refl d (sym at)) w.unshared)

-- ---- the whole
pub claim : {set : Shape → Bool} → Lawful set → (d : Draft) (sheet : Sheet) (h : List Accepted) (out : List Slip) (s : State) → Run set d sheet h out s
    → WholeClaim set d sheet h s.core s.lists.vf.entries s.lists.ee.entries
claim {set} law d sheet h out s run =
    let m = moment set d sheet run in
    let vf_tally = tally_in Vf s.core.tallies in
    let ee_tally = tally_in Ee s.core.tallies in
    record {
      claim = record {
        draft = m.draft;
        vf = kept vf_naming 6 sheet (vf_laws sheet) set law h m.each s.lists.vf.entries vf_tally m.vf;
        ee = kept ee_naming 9 sheet (ee_laws sheet) set law h m.each s.lists.ee.entries ee_tally m.ee;
        of_sheet = λ i o a. (m.each i o a).of_sheet;
        depths = λ i o a. (m.each i o a).shallow;
        offers = m.offers;
      };
      again = λ set' same d' other core' vfs' ees' c answered. (
        covers vf_naming 6 sheet (vf_laws sheet) set law h m.each s.lists.vf.entries vf_tally m.vf set' same other c.depths vfs' (tally_in Vf core'.tallies) c.vf answered,
        covers ee_naming 9 sheet (ee_laws sheet) set law h m.each s.lists.ee.entries ee_tally m.ee set' same other c.depths ees' (tally_in Ee core'.tallies) c.ee answered,
      );
    }
