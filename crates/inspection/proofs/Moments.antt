-- What holds at every moment of a run.
use Rattle.std.proofs.Common.{◌≡◌, ℕ, ◌+◌, ◌*◌, ◌≤◌, Bool, true, not, cond, ◌&&◌, count_by, nat_lt, List, [], ◌∷◌, ◌++◌, All, length, take, map, Result, Ok, Err, sym, refl, ap, ◌∙◌, subst, ltb-false, length-append, length-take-le, arith}
use Rattle.std.proofs.lemmas.List.Sums.{fold_push, sum_by_push, sum_by-cons}
use Rattle.std.proofs.lemmas.List.Elements.{All-nil, All-push}
use Rattle.std.proofs.lemmas.List.{length-map, length_push}
use Rattle.std.proofs.lemmas.Bool.{or_parts, not-false, leb-false, eqb-false}
use Rattle.sheet.proofs.FirstFit.{NoneFits, none_fits}
use Rattle.sheet.specs.declared.drafts.Draft.{Draft}
use Rattle.sheet.specs.declared.rows.Point.{Point}
use Rattle.sheet.specs.declared.rows.Face.{Face}
use Rattle.motion.specs.declared.shapes.Shape.{Shape}
use Rattle.motion.specs.Laws.{InReach}
use Rattle.motion.specs.Depths.{struck_at}
use Rattle.inspection.specs.declared.lists.Lists.{Lists}
use Rattle.inspection.specs.declared.names.VfName.{VfName}
use Rattle.inspection.specs.declared.names.EeName.{EeName}
use Rattle.inspection.specs.declared.faults.TakingFault.{TakingFault}
use Rattle.inspection.specs.declared.slips.Handed.{Handed}
use Rattle.inspection.specs.declared.slips.RefusedSlip.{RefusedSlip}
use Rattle.inspection.specs.declared.slips.Slip.{Slip}
use Rattle.inspection.specs.declared.classes.Tally.{Tally}
use Rattle.inspection.specs.Slips.{Takes, HandsInAt}
use Rattle.motion.specs.declared.shapes.Kind.{Kind}
use Rattle.motion.specs.declared.shapes.Kind.TheVariants.{Vf, Ee}
use Rattle.inspection.specs.Tallies.{no_tests, tests_counted, with_one_more, sum_of, tally_in}
use Rattle.inspection.specs.Offerings.{Offering, Faces}
use Rattle.inspection.specs.Sheets.{Sheet, sheet_in, moving_of, point_at}
use Rattle.inspection.specs.Tests.{Naming, vf_naming, ee_naming}
use Rattle.inspection.specs.Classes.{Rules, rules_at, class_of, entries_after_one, entries_after, tally_after}
use Rattle.inspection.specs.States.{Core, State}
use Rattle.inspection.specs.Offers.{entries_by, tally_by, state_after, offer_checks}
use Rattle.inspection.specs.Runs.{depth_checks, Accepted, Brings, Run}
use Rattle.inspection.specs.Runs.Run.{opened, depth_set, offered, taken, handed_in, asked}
use Rattle.inspection.specs.Claims.{CountsOfKind, how_many, OfSheet}
use Rattle.inspection.proofs.Coordinates.{points_near}
use Rattle.inspection.proofs.NamingLaws.{NamingLaws, vf_laws, ee_laws}
use Rattle.inspection.proofs.Gathering.{listing}

-- ---- the tests of one kind
-- a count to which each test of an offer adds one where it passes p
module _ {E : Type 0} (j : Rules E) where
  tallied : (x : Tally → ℕ) (p : E → Bool) → ((es : List E) (e : E) (t : Tally) → x (with_one_more (class_of j es e) t) ≡ x t + cond (p e) 1 0)
      → (es ts : List E) (t : Tally) → x (tally_after j es ts t) ≡ x t + count_by p ts
  tallied x p one es [] t = omega arith
  tallied x p one es (e ∷ ts) t =
      let c = class_of j es e in
      omega (arith, tallied x p one (entries_after_one c es e) ts (with_one_more c t), one es e t, sum_by-cons (λ e. cond (p e) 1 0) e ts)

  pub all_kept : (es ts : List E) (t : Tally) → (tally_after j es ts t).kept + length es ≡ t.kept + length (entries_after j es ts)
  all_kept es [] t = refl
  all_kept es (e ∷ ts) t = let c = class_of j es e in grind (arith, all_kept (entries_after_one c es e) ts (with_one_more c t), length-append es (e ∷ []))

-- what is listed of them, and how they are counted
pub record KindSoFar {E : Type 0} (n : Naming E) (each : ℕ) (set : Shape → Bool) (sheet : Sheet) (h : List Accepted) (es : List E) (t : Tally) : Type 0 where
  pub entries : es ≡ listing n set sheet h
  pub classes : tests_counted t ≡ each * length h
  pub counts : CountsOfKind n set sheet h es t

module _ {E : Type 0} (n : Naming E) (each : ℕ) (set : Shape → Bool) (sheet : Sheet) where
  none_yet : KindSoFar n each set sheet [] [] no_tests
  none_yet = record { entries = refl; classes = omega arith; counts = record { shared = refl; struck = refl; passed = refl; kept = refl } }

  one_more : NamingLaws n each sheet → (h : List Accepted) (o : Accepted) (es : List E) (t : Tally) → KindSoFar n each set sheet h es t
      → KindSoFar n each set sheet (h ++ (o ∷ [])) (entries_by n set o.depth sheet o.what es) (sum_of t (tally_by n set o.depth sheet o.what es))
  one_more named h o es t k =
      let j : Rules E = rules_at n set o.depth sheet in
      let ts : List E = n.tests sheet o.what in
      record {
        entries = ap (entries_by n set o.depth sheet o.what) k.entries ∙ sym (fold_push (λ es o. entries_by n set o.depth sheet o.what es) [] h o);
        classes = omega (arith, tallied j (λ t. tests_counted t) (λ e. true) (λ es e t. grind arith) es ts no_tests, k.classes, named.many o.what, ap (λ (m : ℕ). each * m) (length_push h o));
        counts = record {
          shared = omega (arith, tallied j (λ t. t.shared) j.shared (λ es e t. grind arith) es ts no_tests, k.counts.shared, more (λ o e. n.shared sheet e));
          struck = omega (arith, tallied j (λ t. t.struck) (λ e. not (j.shared e) && j.struck e) (λ es e t. grind arith) es ts no_tests, k.counts.struck, more (λ o e. not (n.shared sheet e) && struck_at set o.depth (n.shape sheet e)));
          passed = omega (arith, tallied j (λ t. t.kept + t.repeated) (λ e. not (j.shared e) && not (j.struck e)) (λ es e t. grind arith) es ts no_tests, k.counts.passed, more (λ o e. not (n.shared sheet e) && not (struck_at set o.depth (n.shape sheet e))));
          kept = omega (arith, all_kept j es ts no_tests, k.counts.kept);
        };
      }
    where
      more : (p : Accepted → E → Bool) → how_many n sheet (h ++ (o ∷ [])) p ≡ how_many n sheet h p + count_by (p o) (n.tests sheet o.what)
      more p = sum_by_push (λ o. count_by (p o) (n.tests sheet o.what)) h o

-- ---- an accepted offer: its depth, and that it saw the sheet
pub record OfferFacts (sheet : Sheet) (o : Accepted) : Type 0 where
  pub shallow : o.depth ≤ 6
  pub near : (k : ℕ) → InReach 0 (point_at sheet k)
  pub of_sheet : OfSheet sheet o.what

offer_facts : (set : Shape → Bool) (s : State) (ps : List Point) (fs : List Face) (w : Offering) → s.core.depth ≤ 6 → NoneFits (offer_checks set ps fs w s)
    → OfferFacts (sheet_in s.core.draft ps fs) (record { what = w; depth = s.core.depth })
offer_facts set s ps fs (Faces f g) low (a, (b, (c, (d, (e, (k, r)))))) =
    let dr : Draft = s.core.draft in
    let p = or_parts (nat_lt (length ps) dr.points) (nat_lt (length fs) dr.faces) a in
    let lp : length (map moving_of (take dr.points ps)) ≡ dr.points = length-map (take dr.points ps) moving_of ∙ length-take-le dr.points ps (ltb-false _ _ p.0) in
    let lf : length (take dr.faces fs) ≡ dr.faces = length-take-le dr.faces fs (ltb-false _ _ p.1) in
    record {
      shallow = low;
      near = points_near (take dr.points ps) (take dr.faces fs);
      of_sheet = record {
        first = omega (arith, lf, leb-false dr.faces f b);
        second = omega (arith, lf, leb-false dr.faces g c);
        two = eqb-false f g d;
        first_corners = rw lp (not-false _ e);
        second_corners = rw lp (not-false _ k);
      };
    }

-- ---- the whole
pub record Moment (set : Shape → Bool) (d : Draft) (sheet : Sheet) (h : List Accepted) (core : Core) (vfs : List VfName) (ees : List EeName) : Type 0 where
  pub draft : core.draft ≡ d
  pub depth : core.depth ≤ 6
  pub offers : core.accepted ≡ length h
  pub each : All (OfferFacts sheet) h
  pub vf : KindSoFar vf_naming 6 set sheet h vfs (tally_in Vf core.tallies)
  pub ee : KindSoFar ee_naming 9 set sheet h ees (tally_in Ee core.tallies)

module _ (set : Shape → Bool) (d : Draft) (sheet : Sheet) where
  abbrev At : List Accepted → State → Type 0
  At h s = Moment set d sheet h s.core s.lists.vf.entries s.lists.ee.entries

  -- marks change no entry
  taken-entries : (l : Kind) (i q : ℕ) (s : Lists) (r : Result Slip TakingFault) (t : Lists) → Takes l i q s r t → (t.vf.entries ≡ s.vf.entries) × (t.ee.entries ≡ s.ee.entries)
  taken-entries Vf i q s r t (a, e) = grind (arith, a.list, e)
  taken-entries Ee i q s r t (a, v) = grind (arith, a.list, v)

  handed-entries : (l : Kind) (x : Slip) (how : Handed) (s : Lists) (r : Result (Unit {0}) RefusedSlip) (t : Lists) → HandsInAt l x how s r t
      → (t.vf.entries ≡ s.vf.entries) × (t.ee.entries ≡ s.ee.entries)
  handed-entries Vf x how s r t (a, e) = grind (arith, a.list, e)
  handed-entries Ee x how s r t (a, v) = grind (arith, a.list, v)

  pub moment : {h : List Accepted} {out : List Slip} {s : State} → Run set d sheet h out s → At h s
  moment (opened {s} o) =
      rw (o.core, o.vf, o.ee)
      (record { draft = refl; depth = o.depth; offers = refl; each = All-nil (OfferFacts sheet); vf = none_yet vf_naming 6 set sheet; ee = none_yet ee_naming 9 set sheet })
  moment (depth_set {h} {out} {s} k (Ok tt) t run a e) =
      let m : At h s = moment run in
      rw (a.core, e) (record { draft = m.draft; depth = ltb-false 6 k (none_fits (depth_checks k) (sym a.fault)).0; offers = m.offers; each = m.each; vf = m.vf; ee = m.ee })
  moment (depth_set {h} {out} {s} k (Err x) t run a e) = rw (a.core, e) (moment run)
  moment (offered {h} {out} {s} ps fs w (Ok tt) t run b a) =
      let m : At h s = moment run in
      let o : Accepted = record { what = w; depth = s.core.depth } in
      let none = none_fits (offer_checks set ps fs w s) (sym a.fault) in
      let brought : sheet_in s.core.draft ps fs ≡ sheet = subst (λ (x : Draft). Brings x ps fs sheet) (sym m.draft) b none.0 in
      subst (At (h ++ (o ∷ []))) (ap (λ (x : Sheet). state_after set x w s) (sym brought) ∙ sym a.state)
      (record {
        draft = m.draft;
        depth = m.depth;
        offers = omega (arith, m.offers, length_push h o);
        each = All-push (OfferFacts sheet) h o m.each (subst (λ (z : Sheet). OfferFacts z o) brought (offer_facts set s ps fs w m.depth none));
        vf = one_more vf_naming 6 set sheet (vf_laws sheet) h o s.lists.vf.entries (tally_in Vf s.core.tallies) m.vf;
        ee = one_more ee_naming 9 set sheet (ee_laws sheet) h o s.lists.ee.entries (tally_in Ee s.core.tallies) m.ee;
      })
  moment (offered {h} {out} {s} ps fs w (Err x) t run b a) = rw a.state (moment run)
  moment (taken {h} {out} {s} l i q r t run a c) = let e = taken-entries l i q s.lists r t.lists a in rw (c, e.0, e.1) (moment run)
  moment (handed_in {h} {s} before after x how r t run a c) = let e = handed-entries x.list x how s.lists r t.lists a in rw (c, e.0, e.1) (moment run)
  moment (asked {h} {out} {s} t run e) = rw e (moment run)
