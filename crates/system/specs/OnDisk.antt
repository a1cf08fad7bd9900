-- A work whose files are placed on a disk, each at a path, and what it stores at a target, if any.
use Rattle.std.specs.Prelude.{◌≡◌, ℕ, List, ◌⊎◌, Some, None, Option, Ok, Err, Result, IfOk}
use Rattle.std.specs.Option.{option_map}
use Rattle.hosts.specs.Events.{Event, Read, Printed, Stored, Call, Reading, Printing, Storing}
use Rattle.system.specs.Deeds.{Deed, ReadAt, PrintedOut, Flushed, StoredAt, Task, ReadingAt, PrintingOut, Flushing, StoringAt, DoesAll}
use Rattle.system.specs.declared.on_disk.OnDisk.{OnDisk}

-- ---- what a work's call is on the disk: nothing, where it stores and there is no target
module _ {F : Type 0} (path : F → List ℕ) (target : Option (List ℕ)) where
  abbrev pub deed_of : Event F → Option (Deed F)
  deed_of (Read f n bytes) = Some (ReadAt f (path f) n bytes)
  deed_of (Printed bytes) = Some (PrintedOut bytes)
  deed_of (Stored bytes) = option_map (λ p. StoredAt p bytes) target

  abbrev pub call_of : Call F → Option (Task F)
  call_of (Reading f) = Some (ReadingAt f (path f))
  call_of Printing = Some PrintingOut
  call_of Storing = option_map StoringAt target

module _ {D P F : Type 0} (path : P → F → List ℕ) (target : P → Option (List ℕ))
    (does : D → Deed F → D → Type 0) where
  abbrev pub DoesIfAny : D → Option (Deed F) → D → Type 0
  DoesIfAny s (Some deed) t = does s deed t
  DoesIfAny s None t = t ≡ s

  pub record DoesOnDisk (s : OnDisk D P) (e : Event F) (t : OnDisk D P) : Type 0 where
    pub paths : t.paths ≡ s.paths
    pub done : DoesIfAny s.disk (deed_of (path s.paths) (target s.paths) e) t.disk

module _ {D P F E : Type 0} (path : P → F → List ℕ) (target : P → Option (List ℕ))
    (fails : D → Task F → E → D → Type 0) where
  abbrev pub FailsIfAny : D → Option (Task F) → E → D → Type 0
  FailsIfAny s (Some task) e t = fails s task e t
  FailsIfAny s None e t = ⊥

  pub record FailsOnDisk (s : OnDisk D P) (call : Call F) (e : E) (t : OnDisk D P) : Type 0 where
    pub paths : t.paths ≡ s.paths
    pub failed : FailsIfAny s.disk (call_of (path s.paths) (target s.paths) call) e t.disk

-- ---- a whole run: the work, and the last that is done on the disk, which its answer decides
module _ {D P F E X : Type 0} (does : D → Deed F → D → Type 0) (fails : D → Task F → E → D → Type 0)
    (lasts : P → X → List (Deed F)) where
  -- what was printed goes out, if that can be done
  abbrev pub TriesToFlush : D → D → Type 0
  TriesToFlush s t = does s Flushed t ⊎ ((e : E) × fails s Flushing e t)

  -- after a work that went well the last is done, and its answer stands unless that fails; after one
  -- that failed its error is answered
  abbrev pub Ends : OnDisk D P → Result X E → Result X E → OnDisk D P → Type 0
  Ends s (Ok x) r t = DoesAll does fails (lasts s.paths x) s.disk r t.disk × IfOk r (λ y. y ≡ x)
  Ends s (Err e) r t = TriesToFlush s.disk t.disk × (r ≡ Err e)

  pub record Runs (Works : OnDisk D P → Result X E → OnDisk D P → Type 0)
      (s : OnDisk D P) (r : Result X E) (t : OnDisk D P)
      : Type 0 where
    pub between : OnDisk D P
    pub work : Result X E
    pub works : Works s work between
    pub ends : Ends between work r t
