-- The lines of entries, printed one after the other.
use Rattle.std.proofs.Common.{◌≡◌, ℕ, ◌+◌, ◌<◌, List, ◌++◌, length, take, drop, min, flat_map, get_or, Result, sym, ap, ◌∙◌}
use Rattle.std.proofs.lemmas.List.{at_drop_more, take_min, take-map}
use Rattle.hosts.specs.Events.{Event, Call}
use Rattle.hosts.specs.Writing.{Prints}
use Rattle.inspection.specs.declared.marks.Marked.{Marked}
use Rattle.inspection.specs.Lists.{names}
use Rattle.report.specs.Reports.{entry_limit, numbered_entries}

-- with what is left to print after t, all is printed from s on
abbrev pub Leaves : {S F X : Type 0} → (S → Event F → S → Type 0) → (S → Call F → X → S → Type 0) → List ℕ → List ℕ → S → S → Type 0
Leaves {S} {F} {X} does fails all left s t = (r : Result (Unit {0}) X) (u : S) → Prints does fails left t r u → Prints does fails all s r u

module _ {E : Type 0} where
  -- the names of a table's front
  pub names_numbered : (ps : List (Marked E)) → names (take (min entry_limit (length ps)) ps) ≡ numbered_entries (names ps)
  names_numbered ps = ap names (take_min entry_limit ps) ∙ sym (take-map (λ p. p.name) entry_limit ps)

  -- what is left: the line of this entry, and then those of the others
  pub left : (line : E → List ℕ) (ps : List (Marked E)) (i : ℕ) (p : Marked E) → i < length ps → p ≡ get_or ps i p → line p.name ++ flat_map line (names (drop (i + 1) ps)) ≡ flat_map line (names (drop i ps))
  left line ps i p h is = ap (λ q. line q.name ++ flat_map line (names (drop (i + 1) ps))) is ∙ sym (at_drop_more (λ qs. flat_map line (names qs)) ps i p h)
