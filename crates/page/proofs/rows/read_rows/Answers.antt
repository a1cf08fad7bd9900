use Rattle.std.proofs.Common.{[], sym, ◌∙◌, subst}
use Rattle.plan.specs.Plans.{plan}
use Rattle.page.specs.Shown.{shown}
use Rattle.page.specs.inner.Told.{TellsRows}
use Rattle.page.proofs.Shown.{tells_none, tells_none_laid, tells_step}
use Rattle.page.proofs.rows.read_rows.Goals as goal

pub returns-in_default-clause-rows : goal.returns-in_default-clause-rows
returns-in_default-clause-rows c =
    tells_none c.args.sheet.now c.args.step.now c.args.points.now c.args.faces.now c.requires.points c.requires.faces c.read_sheet.result c.read_sheet.ensures.fault
    c.in_default.field-0 _ _ c.in_default.is

pub returns-in-Ok-lay-clause-rows : goal.returns-in-Ok-lay-clause-rows
returns-in-Ok-lay-clause-rows c =
    let read = c.read_sheet.ensures in
    subst (TellsRows (shown (plan c.args.sheet.now c.args.step.now [])) _ _) (sym c.of.ensures)
    (tells_step c.args.sheet.now c.args.step.now c.args.points.now c.args.faces.now c.requires.points c.requires.faces c.read_sheet.result read.fault
    c.in-Ok.draft c.in-Ok.is read.draft _ _ read.points read.faces
    _ (c.from.ensures ∙ c.points.ensures.count) c.lay.result _ _ c.lay.ensures.fault c.lay.ensures.points _ c.in-Ok-lay.is)

pub returns-in-Err-clause-rows : goal.returns-in-Err-clause-rows
returns-in-Err-clause-rows c =
    let read = c.read_sheet.ensures in
    tells_none_laid c.args.sheet.now c.args.step.now c.args.points.now c.args.faces.now c.requires.points c.requires.faces c.read_sheet.result read.fault
    c.in-Ok.draft c.in-Ok.is read.draft _ _ read.points read.faces
    _ (c.from.ensures ∙ c.points.ensures.count) c.lay.result _ [] c.lay.ensures.fault c.lay.ensures.points c.in-Err.field-0 _ _ c.in-Err.is
