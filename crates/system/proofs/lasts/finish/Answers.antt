use Rattle.system.specs.Deeds.{Flushed, Kept}
use Rattle.system.proofs.Done.{does_two}
use Rattle.system.proofs.lasts.finish.Goals as goal

pub returns-in_ok-flush-in-FlushThenKeep : goal.returns-in_ok-flush-in-FlushThenKeep
returns-in_ok-flush-in-FlushThenKeep g c =
    rw c.in-FlushThenKeep.is
    (does_two g.D.Disk.does g.D.Disk.fails Flushed (Kept c.in-FlushThenKeep.path.now) c.args.disk.now _ c.keep.new.self c.keep.result c.in_ok-flush-in-FlushThenKeep.ensures.flushed c.keep.ensures.kept)

pub returns-in_ok-keep-in-KeepThenFlush : goal.returns-in_ok-keep-in-KeepThenFlush
returns-in_ok-keep-in-KeepThenFlush g c =
    rw c.in-KeepThenFlush.is
    (does_two g.D.Disk.does g.D.Disk.fails (Kept c.in-KeepThenFlush.path.now) Flushed c.args.disk.now _ c.flush-in-KeepThenFlush.new.self c.flush-in-KeepThenFlush.result c.in_ok-keep-in-KeepThenFlush.ensures.kept c.flush-in-KeepThenFlush.ensures.flushed)
