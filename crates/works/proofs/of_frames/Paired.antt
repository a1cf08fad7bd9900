-- A sheet and its step whose near pairs are found: they have no fault.
use Rattle.std.proofs.Common.{◌≡◌, ℕ, Bool, true, false, List, [], Some, None, Option, unwrap_or, refl, sym, ap}
use Rattle.std.proofs.lemmas.Bool.{true≢false}
use Rattle.hosts.specs.Writing.{Outcome, or_tells}
use Rattle.sheet.specs.declared.notices.Notice.{Notice}
use Rattle.near_faces.specs.Near.{near_pairs}
use Rattle.pairing.specs.Pairings.{paired, pairing, pairs_bytes, search_fault, told_fault}
use Rattle.plan.specs.Plans.{Plan, plan, draft, fault, sheet}
use Rattle.plan.specs.declared.endings.Ending.{Ending}
use Rattle.plan.specs.declared.endings.Ending.TheVariants.{Complete, Faulty}

abbrev is_complete : Ending → Bool
is_complete Complete = true
is_complete (Faulty n) = false

pub record IsPaired (p : Plan) (o : Outcome Ending) : Type 0 where
  pub no_fault : fault p ≡ None
  pub stored : unwrap_or o.stored [] ≡ pairs_bytes (near_pairs (sheet p))

by_cases : (p : Plan) (a b : Option Notice) → fault p ≡ a → (let o = or_tells a told_fault (or_tells b told_fault (paired (draft p).faces (near_pairs (sheet p)))) in o.answer ≡ Complete → IsPaired p o)
by_cases p None None h e = record { no_fault = h; stored = refl }
by_cases p None (Some n) h e = absurd (true≢false (sym (ap is_complete e)))
by_cases p (Some n) b h e = absurd (true≢false (sym (ap is_complete e)))

pub paired_so : (text bytes : List ℕ) → (pairing text bytes).answer ≡ Complete → IsPaired (plan text bytes []) (pairing text bytes)
paired_so text bytes e = let p = plan text bytes [] in by_cases p (fault p) (search_fault p) refl e
