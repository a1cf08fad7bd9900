-- What is printed and what is stored among what is written of two frames.
use Rattle.std.proofs.Common.{◌≡◌, List, ℕ, [], ◌∷◌, ◌++◌, None, flat_map, refl, sym, ap, ◌∙◌, append-nil}
use Rattle.std.proofs.lemmas.List.Concat.{flat_map-append}
use Rattle.hosts.specs.Writing.{Written, printing, storing, output_by, store_by, output_in, store_in}
use Rattle.hosts.proofs.Writing.{output-printing, store-printing, output-storing, store-storing}
use Rattle.motion.specs.Rows.{delivered}
use Rattle.plan.specs.Notices.{notice_line}
use Rattle.plan.specs.PairBytes.{pair_bytes}
use Rattle.plan.specs.Plans.{Plan, fault}
use Rattle.works.specs.inspect.Plans.{printout_of, printout, plan_written, plan_written_by, walk, report_of}
use Rattle.works.specs.inspect.Walks.{Refusal, refusal_written}

-- a text that is printed first, or last
pub output_behind : (text : List ℕ) (ws : List Written) → output_in (printing text ++ ws) ≡ text ++ output_in ws
output_behind text ws = flat_map-append output_by (printing text) ws ∙ ap (λ l. l ++ output_in ws) (output-printing text)

pub store_behind : (text : List ℕ) (ws : List Written) → store_in (printing text ++ ws) ≡ store_in ws
store_behind text ws = flat_map-append store_by (printing text) ws ∙ ap (λ l. l ++ store_in ws) (store-printing text)

pub output_then : (ws : List Written) (text : List ℕ) → output_in (ws ++ printing text) ≡ output_in ws ++ text
output_then ws text = flat_map-append output_by ws (printing text) ∙ ap (λ l. output_in ws ++ l) (output-printing text)

pub store_then : (ws : List Written) (text : List ℕ) → store_in (ws ++ printing text) ≡ store_in ws
store_then ws text = flat_map-append store_by ws (printing text) ∙ ap (λ l. store_in ws ++ l) (store-printing text) ∙ append-nil (store_in ws)

-- ---- of the pairs that are refused
lines_printed : (rs : List Refusal) → output_in (flat_map refusal_written rs) ≡ flat_map (λ r. notice_line r.why) rs
lines_printed [] = refl
lines_printed (r ∷ rs) =
    flat_map-append output_by (refusal_written r) (flat_map refusal_written rs)
    ∙ (λ i. (output_behind (notice_line r.why) (storing (pair_bytes r.pair)) ∙ ap (λ l. notice_line r.why ++ l) (output-storing (pair_bytes r.pair)) ∙ append-nil (notice_line r.why)) i ++ lines_printed rs i)

pairs_kept : (rs : List Refusal) → store_in (flat_map refusal_written rs) ≡ flat_map (λ r. pair_bytes r.pair) rs
pairs_kept [] = refl
pairs_kept (r ∷ rs) =
    flat_map-append store_by (refusal_written r) (flat_map refusal_written rs)
    ∙ (λ i. (store_behind (notice_line r.why) (storing (pair_bytes r.pair)) ∙ store-storing (pair_bytes r.pair)) i ++ pairs_kept rs i)

-- ---- of a plan that has no fault
module _ (p : Plan) (none : fault p ≡ None) where
  pub plan_output : output_in (plan_written p) ≡ (printout p).text
  plan_output =
      ap (λ n. output_in (plan_written_by p n)) none ∙ output_then (flat_map refusal_written (walk p).refused) (report_of p (walk p).found)
      ∙ ap (λ l. l ++ report_of p (walk p).found) (lines_printed (walk p).refused) ∙ sym (ap (λ n. (printout_of delivered p n).text) none)

  pub plan_store : store_in (plan_written p) ≡ (printout p).stored
  plan_store =
      ap (λ n. store_in (plan_written_by p n)) none ∙ store_then (flat_map refusal_written (walk p).refused) (report_of p (walk p).found)
      ∙ pairs_kept (walk p).refused ∙ sym (ap (λ n. (printout_of delivered p n).stored) none)
