-- The disk of the system.
use Rattle.std.specs.Prelude.{ℕ}
use Rattle.system.specs.declared.machines.Machine.{Machine}

-- how many bytes may still be read on it
abbrev pub left_to_read : {F : Type 0} → Machine F → ℕ
left_to_read m = m.left
