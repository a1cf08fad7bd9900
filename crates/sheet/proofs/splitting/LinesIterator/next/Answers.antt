use Rattle.std.proofs.Common.{◌<◌, length, refl, ap, rules}
use Rattle.sheet.proofs.TextLines.{lines_first}
use Rattle.sheet.proofs.splitting.LinesIterator.next.Goals as goal

pub returns-clause-steps : goal.returns-clause-steps
returns-clause-steps c =
    let some : 0 < length c.args.self.now.rest.now = search rules in
    rw (lines_first c.args.self.now.rest.now some, ← c.cut.ensures.front, ← c.cut.ensures.back) refl

pub returns-clause-goes : goal.returns-clause-goes
returns-clause-goes c = let shorter = ap length (returns-clause-steps c) in search rules
