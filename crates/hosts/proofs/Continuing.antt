-- Works that go on after others, and a work that ends where a call is cut off.
use Rattle.std.proofs.Common.{◌≡◌, ℕ, List, [], ◌∷◌, ◌++◌, Ok, Err, Result}
use Rattle.hosts.specs.Events.{Event, Call}
use Rattle.hosts.specs.Traces.{Went, nothing, next, CutOff}
use Rattle.hosts.specs.Works.{Stopped, Worked}
use Rattle.hosts.proofs.Histories.{went_on}

module _ {S F E : Type 0} (does : S → Event F → S → Type 0) (fails : S → Call F → E → S → Type 0) where
  -- a work after these events
  pub worked_after : {X : Type 0} (Good All : List (Event F) → X → Type 0) (Part Begun : List (Event F) → Call F → Type 0) (s t u : S) (first : List (Event F)) (r : Result X E)
      → Went does s first t → ((es : List (Event F)) (x : X) → Good es x → All (first ++ es) x) → ((es : List (Event F)) (call : Call F) → Part es call → Begun (first ++ es) call)
      → Worked does fails Good Part t r u → Worked does fails All Begun s r u
  worked_after Good All Part Begun s t u first (Ok x) before good part w =
      record { events = first ++ w.events; went = went_on does s t u first w.events before w.went; good = good w.events x w.good }
  worked_after Good All Part Begun s t u first (Err e) before good part w =
      record {
        events = first ++ w.events;
        call = w.call;
        before = w.before;
        went = went_on does s t w.before first w.events before w.went;
        failed = w.failed;
        part = part w.events w.call w.part;
      }

  -- a call that is cut off
  pub cut_stops : (Part : List (Event F) → Call F → Type 0) (s t : S) (event : List ℕ → Event F) (call : Call F) (bytes : List ℕ) (e : E)
      → ((front rest : List ℕ) → bytes ≡ front ++ rest → Part (event front ∷ []) call) → CutOff does fails s event call bytes e t → Stopped does fails Part s e t
  cut_stops Part s t event call bytes e part c =
      record { events = event c.front ∷ []; call = call; before = c.before; went = next (event c.front) nothing c.did; failed = c.failed; part = part c.front c.rest c.split }
