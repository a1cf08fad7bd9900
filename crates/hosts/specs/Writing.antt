-- What a work writes: each byte that it prints or stores, in their order.
use Rattle.std.specs.Prelude.{◌≡◌, ℕ, List, [], ◌∷◌, ◌++◌, map, flat_map, Some, None, Option, Result, unwrap_or}
use Rattle.hosts.specs.Events.{Event, Read, Printed, Stored, Call, files_read, unread}
use Rattle.hosts.specs.Works.{IsFront, Worked}

-- a byte that is printed, or one that is stored
pub data Written : Type 0 where
  ToOutput : ℕ → Written
  ToStore : ℕ → Written

-- a text that is printed, and bytes that are stored
abbrev pub printing : List ℕ → List Written
printing text = map ToOutput text

abbrev pub storing : List ℕ → List Written
storing bytes = map ToStore bytes

-- ---- what is printed among what is written, and what is stored
abbrev pub output_by : Written → List ℕ
output_by (ToOutput b) = b ∷ []
output_by (ToStore b) = []

abbrev pub store_by : Written → List ℕ
store_by (ToOutput b) = []
store_by (ToStore b) = b ∷ []

abbrev pub output_in : List Written → List ℕ
output_in ws = flat_map output_by ws

abbrev pub store_in : List Written → List ℕ
store_in ws = flat_map store_by ws

-- ---- what is written by events
abbrev pub written_by : {F : Type 0} → Event F → List Written
written_by (Read f n bytes) = []
written_by (Printed text) = printing text
written_by (Stored bytes) = storing bytes

abbrev pub written : {F : Type 0} → List (Event F) → List Written
written es = flat_map written_by es

-- ---- a work that reads nothing, writes just this, and answers what Q tells
pub record IsWritten {F X : Type 0} (all : List Written) (Q : X → Type 0) (es : List (Event F)) (x : X)
    : Type 0 where
  pub no_read : files_read es ≡ []
  pub whole : written es ≡ all
  pub answer : Q x

-- a front of it was written, and then writing failed
pub record IsWrittenInPart {F : Type 0} (all : List Written) (es : List (Event F)) (call : Call F)
    : Type 0 where
  pub no_read : files_read es ++ unread call ≡ []
  pub part : IsFront (written es) all

module _ {S F E X : Type 0} (does : S → Event F → S → Type 0) (fails : S → Call F → E → S → Type 0) where
  abbrev pub WritesSo : List Written → (X → Type 0) → S → Result X E → S → Type 0
  WritesSo all Q s r t = Worked does fails (IsWritten all Q) (IsWrittenInPart all) s r t

  -- and answers so
  abbrev pub Writes : List Written → X → S → Result X E → S → Type 0
  Writes all answer s r t = WritesSo all (λ x. x ≡ answer) s r t

  -- a work that prints a text, and stores nothing
  abbrev pub Prints : List ℕ → S → Result X E → S → Type 0
  Prints text s r t = WritesSo (printing text) (λ x. Unit {0}) s r t

-- ---- what comes of a work that stores at most once, and then prints a line
-- the bytes that are stored, if some are; the line; and the answer
pub record Outcome (X : Type 0) : Type 0 where
  pub stored : Option (List ℕ)
  pub line : List ℕ
  pub answer : X

-- nothing is stored
abbrev pub only_line : {X : Type 0} → List ℕ → X → Outcome X
only_line text x = record { stored = None; line = text; answer = x }

-- what was found is told, if something was
abbrev pub or_tells : {N X : Type 0} → Option N → (N → Outcome X) → Outcome X → Outcome X
or_tells None tells o = o
or_tells (Some n) tells o = tells n

-- the bytes first, and then the line
abbrev pub writes_of : {X : Type 0} → Outcome X → List Written
writes_of o = storing (unwrap_or o.stored []) ++ printing o.line
