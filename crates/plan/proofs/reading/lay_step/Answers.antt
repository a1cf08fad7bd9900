use Rattle.std.proofs.Common.{take, subst}
use Rattle.hosts.specs.Events.{Read}
use Rattle.plan.specs.declared.plan_files.PlanFile.TheVariants.{Step}
use Rattle.plan.proofs.FileByFile.{record_says}
use Rattle.plan.proofs.reading.lay_step.Goals as goal

pub returns : goal.returns
returns g c =
    let came = take c.in_ok-count.count c.fill.new.buf in
    record {
      came = came;
      did = subst (λ n. g.H.Host.does c.args.host.now (Read Step n came) c.fill.new.self) c.requires.step c.in_ok-count.ensures.read;
      says = record_says c.args.draft.now c.args.points.now _ came c.lay.result c.requires.points c.requires.few c.lay.ensures.fault c.lay.ensures.points;
    }
