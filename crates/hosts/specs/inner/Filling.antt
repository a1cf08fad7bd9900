-- A page that was empty.
use Rattle.std.specs.Prelude.{ℕ, List, []}
use Rattle.std.specs.Borrow.{MutBor}
use Rattle.hosts.specs.declared.pages.Page.{Page}
use Rattle.hosts.specs.Pages.{Shows}

-- where nothing was shown, this text is
abbrev pub Filled : Page → Page → List ℕ → Type 0
Filled p q text = (lent : MutBor (List ℕ)) → Shows lent [] p → Shows lent text q
