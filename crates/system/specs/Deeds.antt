-- What is done on a disk and a terminal: F are a work's files, each read at a path.
use Rattle.std.specs.Prelude.{◌≡◌, ℕ, List, ◌∷◌, ◌++◌, Ok, Err, Result}
use Rattle.hosts.specs.Traces.{Went}

pub data Deed (F : Type 0) : Type 0 where
  -- of the file at this path so many bytes were asked for, and these came
  ReadAt : F → List ℕ → ℕ → List ℕ → Deed F
  -- these bytes go out, at the latest once all is flushed
  PrintedOut : List ℕ → Deed F
  Flushed : Deed F
  -- these bytes go into a file beside the one at this path, whose place it takes once it is kept
  StoredAt : List ℕ → List ℕ → Deed F
  Kept : List ℕ → Deed F

-- what can fail
pub data Task (F : Type 0) : Type 0 where
  ReadingAt : F → List ℕ → Task F
  PrintingOut : Task F
  Flushing : Task F
  StoringAt : List ℕ → Task F
  Keeping : List ℕ → Task F

abbrev pub task_of : {F : Type 0} → Deed F → Task F
task_of (ReadAt f path n bytes) = ReadingAt f path
task_of (PrintedOut bytes) = PrintingOut
task_of Flushed = Flushing
task_of (StoredAt path bytes) = StoringAt path
task_of (Kept path) = Keeping path

module _ {S F E : Type 0} (does : S → Deed F → S → Type 0) (fails : S → Task F → E → S → Type 0) where
  -- one after another was done, and then one failed
  pub record FailsWithin (deeds : List (Deed F)) (s : S) (e : E) (t : S) : Type 0 where
    pub front : List (Deed F)
    pub next : Deed F
    pub rest : List (Deed F)
    pub split : deeds ≡ front ++ next ∷ rest
    pub before : S
    pub went : Went does s front before
    pub failed : fails before (task_of next) e t

  -- all of these are done, unless one fails, with the error that is answered
  abbrev pub DoesAll : {X : Type 0} → List (Deed F) → S → Result X E → S → Type 0
  DoesAll deeds s (Ok x) t = Went does s deeds t
  DoesAll deeds s (Err e) t = FailsWithin deeds s e t
