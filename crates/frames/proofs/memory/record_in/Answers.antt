use Rattle.frames.specs.Memory.{frames_in}
use Rattle.frames.proofs.Endings.{means}
use Rattle.frames.proofs.InMemory.{line_shown, record_shown}
use Rattle.frames.proofs.memory.record_in.Goals as goal

pub returns-clause-line : goal.returns-clause-line
returns-clause-line c = line_shown c.args.memory.now c.record_step.new.host c.in-Ok.answer c.in-Ok.ensures

pub returns-clause-kept : goal.returns-clause-kept
returns-clause-kept c = record_shown c.args.memory.now c.record_step.new.host c.in-Ok.answer c.in-Ok.ensures

pub returns-clause-means : goal.returns-clause-means
returns-clause-means c = means (frames_in c.args.memory.now.files)
