use Rattle.std.proofs.Common.{◌≡◌, ◌++◌, take, drop}
use Rattle.frames.specs.Comparing.{ending_at}
use Rattle.frames.proofs.comparing.end_at.Given as goal

-- the front of the table is done
abbrev pub invariant-loop-i : goal.invariant-loop-i
invariant-loop-i l = take l.i l.points ++ ending_at (drop l.i l.points) (drop l.i l.frame) ≡ ending_at l.initial.points l.frame
