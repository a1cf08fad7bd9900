use Rattle.std.proofs.Common.{◌≡◌, ◌-◌, length, take, drop, sym, ap, ◌∙◌, arith}
use Rattle.std.proofs.lemmas.List.{take_at}
use Rattle.sheet.specs.Sheet.{onto_front}
use Rattle.step.specs.Record.{record_of}
use Rattle.step.proofs.StepLaws.{counted_step}
use Rattle.step.proofs.writing.write.Goals as goal

-- the rows, as the code takes them
pub returns-clause-back : goal.returns-clause-back
returns-clause-back c =
    let rows = take c.args.draft.now.points c.args.points.now in
    let out = c.args.out.now in
    let k : c.points-count.result - 0 ≡ c.args.draft.now.points = omega (arith, c.points-count.ensures.count) in
    let same = ap (λ m. record_of (take m c.args.points.now)) k in
    let s = counted_step rows in
    let front = take_at (record_of rows) (drop (length (record_of rows)) out) _ (sym (c.put_rows.ensures.len ∙ ap length same)) in
    (s.0, s.1 ∙ sym (ap (take c.put_rows.result) (c.put_rows.ensures.out ∙ ap (λ r. onto_front r out) same) ∙ front))
