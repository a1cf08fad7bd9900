-- What a work does over its host, and what has come of it.
use Rattle.std.specs.Prelude.{◌≡◌, ℕ, Bool, if◌then◌else◌, List, [], ◌∷◌, take, drop, flat_map}
use Rattle.std.specs.List.{sum_by}

pub data Event (F : Type 0) : Type 0 where
  -- so many bytes of a file were asked for, and these came
  Read : F → ℕ → List ℕ → Event F
  Printed : List ℕ → Event F
  Stored : List ℕ → Event F

-- what can fail
pub data Call (F : Type 0) : Type 0 where
  Reading : F → Call F
  Printing : Call F
  Storing : Call F

-- the file that could not be read, if it was reading that failed
abbrev pub unread : {F : Type 0} → Call F → List F
unread (Reading f) = f ∷ []
unread Printing = []
unread Storing = []

-- ---- of one event
abbrev pub printed_by : {F : Type 0} → Event F → List ℕ
printed_by (Read f n bytes) = []
printed_by (Printed bytes) = bytes
printed_by (Stored bytes) = []

abbrev pub stored_by : {F : Type 0} → Event F → List ℕ
stored_by (Read f n bytes) = []
stored_by (Printed bytes) = []
stored_by (Stored bytes) = bytes

abbrev pub file_read_by : {F : Type 0} → Event F → List F
file_read_by (Read f n bytes) = f ∷ []
file_read_by (Printed bytes) = []
file_read_by (Stored bytes) = []

-- ---- of a list of events
-- all that is printed, all that is stored, and the files that are read, in their order
abbrev pub printed : {F : Type 0} → List (Event F) → List ℕ
printed es = flat_map printed_by es

abbrev pub stored : {F : Type 0} → List (Event F) → List ℕ
stored es = flat_map stored_by es

abbrev pub files_read : {F : Type 0} → List (Event F) → List F
files_read es = flat_map file_read_by es

-- ---- of one file, which a test tells
module _ {F : Type 0} (is : F → Bool) where
  abbrev pub asked_by : Event F → ℕ
  asked_by (Read f n bytes) = if is f then n else 0
  asked_by (Printed bytes) = 0
  asked_by (Stored bytes) = 0

  abbrev pub came_by : Event F → List ℕ
  came_by (Read f n bytes) = if is f then bytes else []
  came_by (Printed bytes) = []
  came_by (Stored bytes) = []

  -- how many of its bytes were asked for, and those that came
  abbrev pub bytes_asked : List (Event F) → ℕ
  bytes_asked es = sum_by asked_by es

  abbrev pub bytes_came : List (Event F) → List ℕ
  bytes_came es = flat_map came_by es

-- each file has given its first bytes, as many as were asked for, or all where it has fewer
abbrev pub Fits : {F : Type 0} → (F → F → Bool) → (F → List ℕ) → List (Event F) → Type 0
Fits {F} same bytes_of es = (f : F) → bytes_came (same f) es ≡ take (bytes_asked (same f) es) (bytes_of f)

-- what an event takes of a file comes from the front of what was left of it before
pub record TakesBytes {F : Type 0} (same : F → F → Bool) (before : F → List ℕ) (e : Event F)
    (after : F → List ℕ)
    : Type 0 where
  pub came : (f : F) → came_by (same f) e ≡ take (asked_by (same f) e) (before f)
  pub left : (f : F) → after f ≡ drop (asked_by (same f) e) (before f)
