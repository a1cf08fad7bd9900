-- Texts that are printed in pieces.
use Rattle.std.proofs.Common.{◌≡◌, ℕ, List, [], ◌++◌, Ok, Err, Result, MatchResult, refl, sym, subst}
use Rattle.std.proofs.lemmas.List.{map-append}
use Rattle.hosts.specs.Events.{Event, Printed, Call, Printing}
use Rattle.hosts.specs.Traces.{CutOff}
use Rattle.hosts.specs.Works.{Stopped}
use Rattle.hosts.specs.Writing.{ToOutput, printing, IsWrittenInPart, WritesSo, Writes, Prints}
use Rattle.hosts.proofs.Writing.{printed_once, none_written, written_then, written_short}

module _ {S F E : Type 0} (does : S → Event F → S → Type 0) (fails : S → Call F → E → S → Type 0) where
  -- one call
  pub printed_at_once : {X : Type 0} (s t : S) (bytes : List ℕ) (r : Result X E)
      → MatchResult r (λ x. does s (Printed bytes) t) (λ e. CutOff does fails s Printed Printing bytes e t)
      → Prints does fails bytes s r t
  printed_at_once {X} s t bytes (Ok x) d = printed_once does fails (λ (x : X). Unit {0}) s t bytes (Ok x) (d, tt)
  printed_at_once {X} s t bytes (Err e) c = printed_once does fails (λ (x : X). Unit {0}) s t bytes (Err e) c

  -- no call
  pub nothing_printed : {X : Type 0} (s : S) (x : X) → Prints {E = E} does fails [] s (Ok x) s
  nothing_printed s x = none_written does fails (λ x. Unit {0}) s x tt

  -- one text after another
  pub printed_then : {X Y : Type 0} (s t u : S) (first second : List ℕ) (x : X) (r : Result Y E)
      → Prints does fails first s (Ok x) t → Prints does fails second t r u → Prints does fails (first ++ second) s r u
  printed_then s t u first second x r p q =
      subst (λ all. WritesSo does fails all (λ x. Unit {0}) s r u) (sym (map-append ToOutput first second))
      (written_then does fails (λ x. Unit {0}) (λ x. Unit {0}) s t u (printing first) (printing second) x r p q)

  -- where the first fails, all does
  pub printed_short : {Y : Type 0} (s t : S) (first second : List ℕ) (e : E) (r : Result Y E)
      → Stopped does fails (IsWrittenInPart (printing first)) s e t → r ≡ Err e → Prints does fails (first ++ second) s r t
  printed_short s t first second e r p is =
      subst (λ all. WritesSo does fails all (λ x. Unit {0}) s r t) (sym (map-append ToOutput first second))
      (written_short does fails (λ x. Unit {0}) s t (printing first) (printing second) e r p is)

  -- a text, and then an answer
  module _ {X : Type 0} (s t : S) (text : List ℕ) (answer : X) where
    pub printed_and : Prints {X = Unit {0}} does fails text s (Ok tt) t → Writes {E = E} does fails (printing text) answer s (Ok answer) t
    printed_and p = record { events = p.events; went = p.went; good = record { no_read = p.good.no_read; whole = p.good.whole; answer = refl } }

    pub not_printed : (e : E) (r : Result X E) → Prints {X = Unit {0}} does fails text s (Err e) t → r ≡ Err e → Writes does fails (printing text) answer s r t
    not_printed e r p is = subst (λ r. Writes does fails (printing text) answer s r t) (sym is) p
