-- What stands on a page.
use Rattle.std.specs.Prelude.{◌≡◌, ℕ, ◌-◌, ◌^◌, List, ◌++◌, length, take, drop, min}
use Rattle.std.specs.Borrow.{MutBor}
use Rattle.hosts.specs.Events.{Event, printed_by, Call}
use Rattle.hosts.specs.declared.pages.Page.{Page}
use Rattle.std.specs.declared.convert.Infallible.{Infallible}

-- a text in the front of these bytes, as far as they have room for it
abbrev pub onto_page : List ℕ → List ℕ → List ℕ
onto_page text bytes = take (length bytes) text ++ drop (length text) bytes

-- how much was printed
abbrev pub printed_len : Page → ℕ
printed_len p = p.len

-- over lent bytes a page shows the text, and counts all of it
pub record Shows (lent : MutBor (List ℕ)) (text : List ℕ) (p : Page) : Type 0 where
  pub bytes : p.bytes.now ≡ onto_page text lent.now
  pub len : printed_len p ≡ min (length text) (2 ^ 64 - 1)
  pub lender : p.bytes.ghost_name ≡ lent.ghost_name

-- whatever was shown, this text comes behind it
abbrev pub ShowsBehind : Page → List ℕ → Page → Type 0
ShowsBehind p text q =
    (lent : MutBor (List ℕ)) (before : List ℕ) → Shows lent before p → Shows lent (before ++ text) q

-- what is printed is shown; what is stored is let go
abbrev pub ShowsMore : Page → Event (Unit {0}) → Page → Type 0
ShowsMore p e q = ShowsBehind p (printed_by e) q

abbrev pub NeverFails : {S F : Type 0} → S → Call F → Infallible → S → Type 0
NeverFails s call e t = ⊥
