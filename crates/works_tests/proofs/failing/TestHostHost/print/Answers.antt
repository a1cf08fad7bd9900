use Rattle.hosts.specs.Events.{Printed, Printing}
use Rattle.works_tests.proofs.Unsaid.{written_or_cut}
use Rattle.works_tests.proofs.failing.TestHostHost.print.Goals as goal

pub returns-in_err-note-clause-printed : goal.returns-in_err-note-clause-printed
returns-in_err-note-clause-printed c = written_or_cut c.args.self.now _ Printed Printing c.args.bytes.now c.from_residual.result

pub returns-clause-printed : goal.returns-clause-printed
returns-clause-printed c = written_or_cut c.args.self.now _ Printed Printing c.args.bytes.now c.written.result
