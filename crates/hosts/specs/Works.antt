-- A work over a host: all of its calls go well, or one fails and ends it.
use Rattle.std.specs.Prelude.{◌≡◌, List, [], ◌++◌, Some, None, Option, Ok, Err, Result}
use Rattle.hosts.specs.Events.{Event, Call}
use Rattle.hosts.specs.Traces.{Went}

module _ {S F E : Type 0} (does : S → Event F → S → Type 0) (fails : S → Call F → E → S → Type 0) where
  -- all went well, and of what was done and answered this holds
  pub record Finished {X : Type 0} (Good : List (Event F) → X → Type 0) (s : S) (x : X) (t : S)
      : Type 0 where
    pub events : List (Event F)
    pub went : Went does s events t
    pub good : Good events x

  -- after some calls one failed, with the error that is answered; of what was done before and of
  -- the call that failed this holds
  pub record Stopped (Part : List (Event F) → Call F → Type 0) (s : S) (e : E) (t : S)
      : Type 0 where
    pub events : List (Event F)
    pub call : Call F
    pub before : S
    pub went : Went does s events before
    pub failed : fails before call e t
    pub part : Part events call

  abbrev pub Worked : {X : Type 0} → (List (Event F) → X → Type 0)
      → (List (Event F) → Call F → Type 0) → S → Result X E → S → Type 0
  Worked Good Part s (Ok x) t = Finished Good s x t
  Worked Good Part s (Err e) t = Stopped Part s e t

-- what is left to do, unless something was found that ends the work, as a fault
abbrev pub unless_found : {N X : Type 0} → Option N → List X → List X
unless_found (Some n) later = []
unless_found None later = later

-- a front of it
pub record IsFront {X : Type 0} (front whole : List X) : Type 0 where
  pub rest : List X
  pub split : whole ≡ front ++ rest
