use Rattle.system.specs.Deeds.{StoredAt, StoringAt}
use Rattle.system.proofs.Pieces.{cut_at_once}
use Rattle.system.proofs.machines.MachineDisk.store.Goals as goal

pub returns-clause-stored : goal.returns-clause-stored
returns-clause-stored g c =
    cut_at_once c.args.self.now _ (StoredAt c.args.path.now) (StoringAt c.args.path.now) c.args.bytes.now c.at.result
