-- What the lines settle that `inspect` prints of a plan.
use Rattle.std.specs.Prelude.{◌≡◌, ℕ, List, All, length, flat_map, count_by}
use Rattle.hosts.specs.Pages.{onto_page}
use Rattle.sheet.specs.Lines.{lines_of}
use Rattle.inspection.specs.declared.offerings.Offering.{Offering}
use Rattle.report.specs.Settled.{Settled, IsAmong, is_fault}
use Rattle.plan.specs.PairBytes.{offerings_in, pair_bytes}
use Rattle.plan.specs.Plans.{Plan, sheet}

-- by this text, and these bytes of the pairs that are refused
pub record SettlesPlan (p : Plan) (text bytes : List ℕ) : Type 0 where
  pub refused : List Offering
  pub bytes_are : bytes ≡ flat_map pair_bytes refused
  -- each has a line that tells why
  pub lines : count_by is_fault (lines_of text) ≡ length refused
  -- of the other pairs of the plan each test has a point in common, or is told, or stays apart
  pub others : All (λ o. ¬ IsAmong refused o → Settled (sheet p) text o) (offerings_in p.pairs)

-- with these bytes put into the front of lent ones
abbrev pub SettlesPlanOnto : Plan → List ℕ → List ℕ → List ℕ → Type 0
SettlesPlanOnto p text lent now = (bytes : List ℕ) × (now ≡ onto_page bytes lent) × SettlesPlan p text bytes
