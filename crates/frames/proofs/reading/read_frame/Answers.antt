use Rattle.std.proofs.Common.{take, subst}
use Rattle.hosts.specs.Events.{Read}
use Rattle.frames.proofs.Texts.{front_says}
use Rattle.frames.proofs.reading.read_frame.Goals as goal

pub returns-clause-read : goal.returns-clause-read
returns-clause-read g c =
    let came = take c.in_ok-count.count c.fill.new.buf in
    let read = c.read_sheet.ensures in
    record {
      came = came;
      did = subst (λ n. g.H.Host.does c.args.host.now (Read c.args.file n came) c.fill.new.self) c.requires.text c.in_ok-count.ensures.read;
      says = λ text h. front_says c.args.points.now _ c.args.faces.now _ came text c.requires.points c.requires.faces h c.read_sheet.result read.fault read.draft read.points read.faces;
    }
