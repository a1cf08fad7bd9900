-- A host of whose calls nothing is said.
use Rattle.std.proofs.Common.{ℕ, List, [], Ok, Err, Result, MatchResult, sym, append-nil}
use Rattle.hosts.specs.Events.{Event, Call}
use Rattle.hosts.specs.Traces.{CutOff}

module _ {S F E : Type 0} (s t : S) (event : List ℕ → Event F) (call : Call F) (bytes : List ℕ) where
  pub written_or_cut : (r : Result Unit E) → MatchResult r (λ x. Unit {0}) (λ e. CutOff (λ h e i. Unit {0}) (λ h call e i. Unit {0}) s event call bytes e t)
  written_or_cut (Ok x) = tt
  written_or_cut (Err e) = record { front = bytes; rest = []; split = sym (append-nil bytes); before = s; did = tt; failed = tt }
