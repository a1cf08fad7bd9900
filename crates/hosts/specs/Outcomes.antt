-- A work that reads its files, and then writes what comes of them.
use Rattle.std.specs.Prelude.{◌≡◌, ℕ, Bool, List, [], ◌++◌, Result}
use Rattle.hosts.specs.Events.{Event, Call, Fits, files_read, unread}
use Rattle.hosts.specs.Works.{Worked, IsFront}
use Rattle.hosts.specs.Writing.{Written, written}

-- what its files may be is a P: their bytes, and those that are needed of them, in their order
module _ {F P : Type 0} (same : F → F → Bool) (bytes_of : P → F → List ℕ) (needed : P → List F) where
  -- ---- reading alone
  -- the files that are needed were read, and nothing was written; so says what was read, whatever the
  -- files have past what came
  pub record IsRead {X : Type 0} (Says : P → X → Type 0) (es : List (Event F)) (x : X) : Type 0 where
    pub reads_only : written es ≡ []
    pub says : (p : P) → Fits same (bytes_of p) es → Says p x × (files_read es ≡ needed p)

  -- the next file could not be read
  pub record IsReadInPart (es : List (Event F)) (call : Call F) : Type 0 where
    pub reads_only : written es ≡ []
    pub files : (p : P) → Fits same (bytes_of p) es
        → IsFront (files_read es ++ unread call) (needed p)

  -- ---- and then writing
  -- to its end: the files that are needed were read, and no others, and all was written
  pub record IsDone {X : Type 0} (all : P → List Written) (Q : P → X → Type 0)
      (p : P) (es : List (Event F)) (x : X)
      : Type 0 where
    pub answer : Q p x
    pub written : written es ≡ all p
    pub files : files_read es ≡ needed p

  -- stopped by a call
  pub record IsDoneInPart (all : P → List Written) (p : P) (es : List (Event F)) (call : Call F)
      : Type 0 where
    pub written : IsFront (written es) (all p)
    pub files : IsFront (files_read es ++ unread call) (needed p)

  -- ---- all that can come of it
  module _ {S E : Type 0} (does : S → Event F → S → Type 0) (fails : S → Call F → E → S → Type 0) {X : Type 0} where
    abbrev pub Reads : (P → X → Type 0) → S → Result X E → S → Type 0
    Reads Says s r t = Worked does fails (IsRead Says) IsReadInPart s r t

    abbrev pub ReadsAndWrites : (P → List Written) → (P → X → Type 0) → S → Result X E → S → Type 0
    ReadsAndWrites all Q s r t =
        Worked does fails (λ es x. (p : P) → Fits same (bytes_of p) es → IsDone all Q p es x)
        (λ es call. (p : P) → Fits same (bytes_of p) es → IsDoneInPart all p es call) s r t
