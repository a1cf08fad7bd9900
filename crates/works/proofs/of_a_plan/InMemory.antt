-- What a plan in memory comes to.
use Rattle.std.proofs.Common.{◌≡◌, ◌↔◌, ℕ, ◌-◌, ◌^◌, ◌<◌, ◌≤◌, List, [], None, Ok, length, min, take, drop, sym, ap, ◌∙◌, subst, arith, rules, length-append, length-take, length-drop}
use Rattle.std.proofs.lemmas.List.{places, same_lists}
use Rattle.hosts.specs.Events.{printed}
use Rattle.hosts.specs.Memory.{Remembers}
use Rattle.hosts.specs.Pages.{onto_page, Shows, NeverFails}
use Rattle.hosts.specs.inner.Filling.{Filled}
use Rattle.hosts.specs.Works.{Finished}
use Rattle.hosts.specs.declared.memories.Memory.{Memory}
use Rattle.hosts.proofs.Remembering.{fits, printed_shown, stored_shown, same_printed, same_stored}
use Rattle.plan.specs.Memory.{left_in}
use Rattle.plan.specs.Plans.{same_plan_file, ReadsPlan, Plan, bytes_of, fault}
use Rattle.works.specs.inspect.Outcomes.{EndsWith, Inspects}
use Rattle.works.specs.inspect.Plans.{printout, ClaimOfPlan}
use Rattle.works.specs.inspect.Settled.{SettlesPlan, SettlesPlanOnto}
use Rattle.plan.specs.declared.endings.Ending.{Ending}
use Rattle.plan.specs.declared.endings.Ending.TheVariants.{Complete}
use Rattle.plan.specs.declared.memory.PlanBytes.{PlanBytes}
use Rattle.plan.specs.declared.plan_files.PlanFile.{PlanFile}

-- a text that has room on a page is its front
pub whole_text : (text page now : List ℕ) (n : ℕ) → n ≡ min (length text) (2 ^ 64 - 1) → now ≡ onto_page text page → n ≤ length now → length page < 2 ^ 63 → take n now ≡ text
whole_text text page now n len is room few =
    let same : length (onto_page text page) ≡ length page = omega (arith, length-append (take (length page) text) (drop (length text) page), length-take (length page) text, length-drop (length text) page) in
    let count : n ≡ length text = omega (arith, ap length is) in
    ap (take n) is ∙ front text page n count (omega (arith, ap length is))
  where
    front : (text page : List ℕ) (n : ℕ) → n ≡ length text → n ≤ length page → take n (onto_page text page) ≡ text
    front text page n e h = same_lists _ _ (search (rules, places)) (λ k d h. grind (arith, places))

pub settled_onto : (p : Plan) (text stored page now lent then : List ℕ) (n : ℕ) → SettlesPlan p text stored
    → n ≡ min (length text) (2 ^ 64 - 1) → now ≡ onto_page text page → n ≤ length now → length page < 2 ^ 63 → then ≡ onto_page stored lent → SettlesPlanOnto p (take n now) lent then
settled_onto p text stored page now lent then n all len is room few refused =
    (stored, refused, subst (λ t. SettlesPlan p t stored) (sym (whole_text text page now n len is room few)) all)

abbrev bytes_left : PlanBytes → PlanFile → List ℕ
bytes_left b = bytes_of (left_in b)

module _ (m n : Memory PlanBytes) (end : Ending) (run : Inspects (Remembers same_plan_file bytes_left) NeverFails m (Ok end) n) where
  went : Finished (Remembers same_plan_file bytes_left) NeverFails (λ es end. (p : Plan) → ReadsPlan p es → EndsWith p es end) m end n
  unfolding Inspects
  went = run

  ends : EndsWith (left_in m.files) went.events end
  ends = went.good (left_in m.files) (fits same_plan_file bytes_left m n went.events went.went)

  pub ended : end ≡ (printout (left_in m.files)).ending
  ended = ends.ending

  pub text_shown : Filled m.printed.now n.printed.now (printout (left_in m.files)).text
  text_shown lent empty = subst (λ t. Shows lent t n.printed.now) ends.text (printed_shown same_plan_file bytes_left m n went.events went.went lent [] empty)

  pub refused_shown : Filled m.stored.now n.stored.now (printout (left_in m.files)).stored
  refused_shown lent empty = subst (λ t. Shows lent t n.stored.now) ends.stored (stored_shown same_plan_file bytes_left m n went.events went.went lent [] empty)

  pub completed : (end ≡ Complete) ↔ (fault (left_in m.files) ≡ None)
  completed = ends.complete

  pub claimed : ClaimOfPlan (left_in m.files)
  claimed = ends.claim

  pub settled : end ≡ Complete → SettlesPlan (left_in m.files) (printout (left_in m.files)).text (printout (left_in m.files)).stored
  settled done = subst (λ t. SettlesPlan (left_in m.files) t (printout (left_in m.files)).stored) ends.text (subst (SettlesPlan (left_in m.files) (printed went.events)) ends.stored (ends.settles done))

  pub same_page : n.printed.ghost_name ≡ m.printed.ghost_name
  same_page = same_printed same_plan_file bytes_left m _ n end went

  pub same_refused : n.stored.ghost_name ≡ m.stored.ghost_name
  same_refused = same_stored same_plan_file bytes_left m _ n end went
