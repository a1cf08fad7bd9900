-- What the work of `near` comes to, whatever bytes the files have beyond those that came.
use Rattle.std.specs.Prelude.{◌≡◌, ℕ, List, map, IfSome, Result}
use Rattle.hosts.specs.Events.{Event, Call}
use Rattle.hosts.specs.Outcomes.{ReadsAndWrites}
use Rattle.hosts.specs.Writing.{writes_of}
use Rattle.near_faces.specs.declared.pairs.Pair.{Pair}
use Rattle.near_faces.specs.Boxes.{swept_boxes}
use Rattle.near_faces.specs.Covering.{CoversSheet}
use Rattle.near_faces.specs.Near.{NearPairs}
use Rattle.plan.specs.PairBytes.{offerings_in}
use Rattle.plan.specs.Plans.{Plan, bytes_of, same_plan_file, draft, sheet, needed_files}
use Rattle.plan.specs.declared.endings.Ending.{Ending}
use Rattle.plan.specs.declared.plan_files.PlanFile.{PlanFile}
use Rattle.near_faces.specs.Near.{offering_of}
use Rattle.pairing.specs.Pairings.{pairing}

-- ---- what stored pairs are for
-- these bytes hold all near pairs of the plan's sheet and no others, as `inspect` reads them; offered
-- all, they cover the sheet
pub record Serves (p : Plan) (bytes : List ℕ) : Type 0 where
  pub pairs : List Pair
  pub read : offerings_in bytes ≡ map offering_of pairs
  pub near : NearPairs (swept_boxes (sheet p)) pairs
  pub covers : CoversSheet (draft p) (sheet p) pairs

-- ---- what it answers to its end
pub record EndsPairing (p : Plan) (end : Ending) : Type 0 where
  pub ending : end ≡ (pairing p.sheet p.step).answer
  pub serves : IfSome (pairing p.sheet p.step).stored (Serves p)

-- all that it can come to: the files that are needed are read, in their order, and no others, and then
-- the pairs are stored and the line printed; or a call fails, and ends it
unfoldable pub FindsPairs : {S E : Type 0} → (S → Event PlanFile → S → Type 0)
    → (S → Call PlanFile → E → S → Type 0) → S → Result Ending E → S → Type 0
FindsPairs does fails s r t =
    ReadsAndWrites same_plan_file bytes_of needed_files does fails (λ p. writes_of (pairing p.sheet p.step)) EndsPairing s r t
