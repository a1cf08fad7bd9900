use Rattle.std.proofs.Common.{rules}
use Rattle.frames.specs.Frames.{frames}
use Rattle.works.specs.two_frames.Accounts.{account_text, account_refused, sheet_between}
use Rattle.works.proofs.of_frames.Settling.{settled_onto}
use Rattle.works.proofs.two_frames.memory.inspect_texts.Goals as goal

pub returns-clause-settles : goal.returns-clause-settles
returns-clause-settles c =
    λ room.
    let f = frames c.args.start.now c.args.end.now in
    let text = c.inspect_in-ending.ensures.page _ c.new-page.ensures in
    let kept = c.inspect_in-ending.ensures.refused _ c.new-refused.ensures in
    settled_onto (sheet_between f) (account_text f) (account_refused f) c.args.page.now _ c.args.refused.now _ _ c.inspect_in-ending.ensures.settles (search (rules, text.len)) (search (rules, text.bytes)) (search (rules, kept.bytes)) (search rules) room
