-- By two sets that agree on every test the same is printed and stored.
use Rattle.std.proofs.Common.{◌≡◌, ℕ, ◌≤◌, Bool, List, [], ◌∷◌, ◌++◌, flat_map, Some, None, Option, refl, ap, ◌∙◌, lit≤}
use Rattle.std.specs.Prelude.{codes}
use Rattle.sheet.specs.declared.notices.Notice.{Notice}
use Rattle.motion.specs.declared.shapes.Kind.TheVariants.{Vf, Ee}
use Rattle.motion.specs.declared.shapes.Shape.{Shape}
use Rattle.motion.specs.Laws.{InReach}
use Rattle.motion.specs.Rows.{delivered}
use Rattle.inspection.specs.Claims.{Agree}
use Rattle.inspection.specs.Sheets.{Sheet, point_at}
use Rattle.inspection.specs.Tallies.{tally_in}
use Rattle.inspection.specs.Tests.{vf_naming, ee_naming}
use Rattle.inspection.specs.declared.offerings.Offering.{Offering}
use Rattle.inspection.proofs.Agreeing.{FindSame, agreeing}
use Rattle.inspection.proofs.Coordinates.{points_near}
use Rattle.inspection.proofs.NamingLaws.{vf_laws, ee_laws}
use Rattle.report.specs.Lines.{vf_line, ee_line, count_line}
use Rattle.report.specs.Reports.{numbered_entries, report_text}
use Rattle.plan.specs.Plans.{Plan, draft, sheet, moving_points, faces, fault}
use Rattle.works.specs.inspect.Plans.{report_by, printout_of, PrintsAlike}
use Rattle.plan.specs.PairBytes.{offerings_in}
use Rattle.works.specs.inspect.Printouts.{Printout}
use Rattle.works.specs.inspect.Walks.{Walk, Found, just_opened, sorted_in, refusal, found_after, walk_on, walked, refusal_lines, refused_pairs}
use Rattle.plan.specs.declared.endings.Ending.TheVariants.{Complete}

module _ (set set' : Shape → Bool) (same : Agree set set') (s : Sheet) (near : (k : ℕ) → InReach 0 (point_at s k)) where
  vf_same : (f : Found) → f.core.depth ≤ 6 → FindSame set set' vf_naming s f.core.depth
  vf_same f low = agreeing set set' same vf_naming 6 s (vf_laws s) near f.core.depth low

  ee_same : (f : Found) → f.core.depth ≤ 6 → FindSame set set' ee_naming s f.core.depth
  ee_same f low = agreeing set set' same ee_naming 9 s (ee_laws s) near f.core.depth low

  -- ---- a pair
  module _ (o : Offering) (f : Found) (low : f.core.depth ≤ 6) where
    same_refusal : refusal set' s o f ≡ refusal set s o f
    same_refusal = rw ((vf_same f low).entries o f.entries.vf, (ee_same f low).entries o f.entries.ee) refl

    same_after : found_after set' s o f ≡ found_after set s o f
    same_after =
        let v = vf_same f low in
        let e = ee_same f low in
        rw (v.entries o f.entries.vf, e.entries o f.entries.ee, v.tally o f.entries.vf, e.tally o f.entries.ee) refl

  sorted_alike : (w : Walk) (o : Offering) → w.found.core.depth ≤ 6 → (n : Option Notice) → sorted_in set' s w o n ≡ sorted_in set s w o n
  sorted_alike w o low (Some n) = refl
  sorted_alike w o low None = λ i. record { refused = w.refused; accepted = (sorted_in set s w o None).accepted; found = same_after o w.found low i }

  offered_alike : (w : Walk) (o : Offering) → w.found.core.depth ≤ 6 → walk_on set' s w o ≡ walk_on set s w o
  offered_alike w o low = ap (sorted_in set' s w o) (same_refusal o w.found low) ∙ sorted_alike w o low (refusal set s o w.found)

  sorted_depth : (w : Walk) (o : Offering) (n : Option Notice) → (sorted_in set s w o n).found.core.depth ≡ w.found.core.depth
  sorted_depth w o (Some n) = refl
  sorted_depth w o None = refl

  walked_depth : (w : Walk) (os : List Offering) → (walked set s w os).found.core.depth ≡ w.found.core.depth
  walked_depth w [] = refl
  walked_depth w (o ∷ os) = walked_depth (walk_on set s w o) os ∙ sorted_depth w o (refusal set s o w.found)

  walked_alike : (w : Walk) (os : List Offering) → w.found.core.depth ≤ 6 → walked set' s w os ≡ walked set s w os
  walked_alike w [] low = refl
  walked_alike w (o ∷ os) low =
      ap (λ (u : Walk). walked set' s u os) (offered_alike w o low) ∙ walked_alike (walk_on set s w o) os (rw (sorted_depth w o (refusal set s o w.found)) low)

  -- ---- the report
  report_alike : (f : Found) → f.core.depth ≤ 6
      → report_text (record { set = set'; core = f.core; sheet = s }) f.entries ≡ report_text (record { set = set; core = f.core; sheet = s }) f.entries
  unfolding report_text
  report_alike f low =
      let v = (vf_same f low).windows in
      let w = (ee_same f low).windows in
      λ i. (flat_map (λ e. vf_line e (v e i) ++ codes "\n") (numbered_entries f.entries.vf) ++ (count_line Vf (tally_in Vf f.core.tallies) ++ codes "\n"))
      ++ (flat_map (λ e. ee_line e (w e i) ++ codes "\n") (numbered_entries f.entries.ee) ++ (count_line Ee (tally_in Ee f.core.tallies) ++ codes "\n"))

-- ---- all of a plan
-- after a walk
abbrev printed : (Shape → Bool) → Plan → Walk → Printout
printed set p w = record { text = refusal_lines w ++ report_by set p w.found; stored = refused_pairs w; ending = Complete }

pub prints_alike : (p : Plan) → PrintsAlike p
prints_alike p other same = by_fault (fault p)
  where
    near : (k : ℕ) → InReach 0 (point_at (sheet p) k)
    near = points_near (moving_points p) (faces p)

    by_fault : (n : Option Notice) → printout_of other p n ≡ printout_of delivered p n
    by_fault (Some n) = refl
    by_fault None =
        let start : Walk = just_opened (draft p) in
        let os = offerings_in p.pairs in
        let w : Walk = walked delivered (sheet p) start os in
        let low : w.found.core.depth ≤ 6 = rw (walked_depth delivered other same (sheet p) near start os) (lit≤ tt) in
        (λ i. printed other p (walked_alike delivered other same (sheet p) near start os (lit≤ tt) i))
        ∙ (λ i. record {
          text = refusal_lines w ++ report_alike delivered other same (sheet p) near w.found low i;
          stored = refused_pairs w;
          ending = Complete;
        })
