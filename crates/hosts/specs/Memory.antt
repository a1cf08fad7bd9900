-- Files in memory, and a page each for what is printed and for what is stored.
use Rattle.std.specs.Prelude.{◌≡◌, ℕ, Bool, List}
use Rattle.hosts.specs.Events.{Event, TakesBytes, printed_by, stored_by}
use Rattle.hosts.specs.Pages.{ShowsBehind}
use Rattle.hosts.specs.declared.memories.Memory.{Memory}

-- what is read is taken from what is left of the files; what is printed and stored is shown, each on
-- the page that it was
pub record Remembers {T F : Type 0} (same : F → F → Bool) (left : T → F → List ℕ)
    (m : Memory T) (e : Event F) (n : Memory T)
    : Type 0 where
  pub taken : TakesBytes same (left m.files) e (left n.files)
  pub printed : ShowsBehind m.printed.now (printed_by e) n.printed.now
  pub stored : ShowsBehind m.stored.now (stored_by e) n.stored.now
  pub same_printed : n.printed.ghost_name ≡ m.printed.ghost_name
  pub same_stored : n.stored.ghost_name ≡ m.stored.ghost_name
