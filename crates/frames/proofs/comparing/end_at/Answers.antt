use Rattle.std.proofs.Common.{arith}
use Rattle.frames.proofs.FrameLaws.{ending_all}
use Rattle.frames.proofs.comparing.end_at.Goals as goal

pub returns : goal.returns
returns c = ending_all c.loop-i.points c.args.frame.now c.loop-i.i _ (omega arith) c.loop-i.invariant
