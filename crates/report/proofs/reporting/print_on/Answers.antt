use Rattle.std.proofs.Common.{Ok}
use Rattle.hosts.proofs.Showing.{printed_shown}
use Rattle.report.proofs.reporting.print_on.Goals as goal

pub returns-clause-shown : goal.returns-clause-shown
returns-clause-shown g c = printed_shown _ _ _ (Ok c.in-Ok.done) c.in-Ok.ensures.printed
