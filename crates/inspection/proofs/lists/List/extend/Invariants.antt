use Rattle.std.proofs.Common.{◌≡◌, take}
use Rattle.inspection.specs.inner.Extending.{extended}
use Rattle.inspection.proofs.lists.List.extend.Given as goal

-- so many of the new ones stand at the end
abbrev pub invariant-loop-e : goal.invariant-loop-e
invariant-loop-e g l =
    l.self ≡ extended (take l.e-index l.new) l.fn.self
