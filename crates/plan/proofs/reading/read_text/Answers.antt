use Rattle.std.proofs.Common.{take, subst}
use Rattle.hosts.specs.Events.{Read}
use Rattle.plan.specs.declared.plan_files.PlanFile.TheVariants.{Sheet}
use Rattle.plan.proofs.FileByFile.{text_says}
use Rattle.plan.proofs.reading.read_text.Goals as goal

pub returns-clause-read : goal.returns-clause-read
returns-clause-read g c =
    let came = take c.in_ok-count.count c.fill.new.buf in
    let read = c.read_sheet.ensures in
    record {
      came = came;
      did = subst (λ n. g.H.Host.does c.args.host.now (Read Sheet n came) c.fill.new.self) c.requires.text c.in_ok-count.ensures.read;
      says = text_says c.args.points.now _ c.args.faces.now _ came c.read_sheet.result c.requires.points c.requires.faces read.fault read.draft read.points read.faces;
    }
