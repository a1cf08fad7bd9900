use Rattle.std.proofs.Common.{length, pos, ap, arith}
use Rattle.std.proofs.lemmas.List.Folds.{length-flat_map-take}
use Rattle.sheet.specs.declared.rows.Coords.{Coords}
use Rattle.step.specs.Record.{point_record}
use Rattle.step.proofs.writing.put_rows.Goals as goal

-- the record of one row more is no longer than the whole
pub slice_bounds-copy_from_slice-end : goal.slice_bounds-copy_from_slice-end
slice_bounds-copy_from_slice-end c =
    let zero : Coords = record { x = pos 0; y = pos 0; z = pos 0 } in
    let fits = length-flat_map-take point_record c.args.rows.now c.loop-row.row-index (record { start = zero; end = zero }) c.loop-row-test.true in
    omega (arith, ap length c.point_record-record.ensures, ap length c.as_slice-bytes.ensures.value)
