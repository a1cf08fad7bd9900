use Rattle.hosts.specs.Events.{Stored, Storing}
use Rattle.works_tests.proofs.Unsaid.{written_or_cut}
use Rattle.works_tests.proofs.failing.TestHostHost.store.Goals as goal

pub returns-in_err-note-clause-stored : goal.returns-in_err-note-clause-stored
returns-in_err-note-clause-stored c = written_or_cut c.args.self.now _ Stored Storing c.args.bytes.now c.from_residual.result

pub returns-clause-stored : goal.returns-clause-stored
returns-clause-stored c = written_or_cut c.args.self.now _ Stored Storing c.args.bytes.now c.written.result
