use Rattle.std.proofs.Common.{refl, arith}
use Rattle.std.proofs.lemmas.Grind.{common_steps}
use Rattle.system.proofs.Calls.{store_on_disk}
use Rattle.system.proofs.on_disk.OnDiskHost.store.Goals as goal

pub returns-in-Some-clause-stored : goal.returns-in-Some-clause-stored
returns-in-Some-clause-stored g c =
    store_on_disk g.P.FilePaths.path_of g.P.FilePaths.target_of g.D.Disk.does g.D.Disk.fails c.args.self.now _ c.in-Some.path.now _ c.args.bytes.now c.store.result refl c.in-Some.ensures (grind (arith, common_steps)) c.store.ensures.stored
