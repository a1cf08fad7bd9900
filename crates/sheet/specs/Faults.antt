-- The number, the layer and the two places of every fault.
use Rattle.sheet.specs.Checks.{notice}
use Rattle.sheet.specs.declared.faults.FieldFault.{FieldFault}
use Rattle.sheet.specs.declared.faults.FieldFault.TheVariants.{NotANumber}
use Rattle.sheet.specs.declared.faults.LineFault.{LineFault}
use Rattle.sheet.specs.declared.faults.LineFault.TheVariants.{Field, NoSuchStart, CoordinateOutside, NoSuchPoint, NamedBefore}
use Rattle.sheet.specs.declared.faults.SheetFault.{SheetFault}
use Rattle.sheet.specs.declared.faults.SheetFault.TheVariants.{Line, TextTooLong, NoRoom}
use Rattle.sheet.specs.declared.notices.Layer.TheVariants as layer
use Rattle.sheet.specs.declared.notices.Notice.{Notice}

abbrev pub notice_of_field : FieldFault → Notice
notice_of_field (NotANumber s) = notice 1 layer.Field s.line s.field

abbrev pub notice_of_line : LineFault → Notice
notice_of_line (Field e) = notice_of_field e
notice_of_line (NoSuchStart s) = notice 2 layer.Line s.line s.field
notice_of_line (CoordinateOutside s) = notice 3 layer.Line s.line s.field
notice_of_line (NoSuchPoint s) = notice 4 layer.Line s.line s.field
notice_of_line (NamedBefore s) = notice 5 layer.Line s.line s.field

abbrev pub notice_of_sheet : SheetFault → Notice
notice_of_sheet (Line e) = notice_of_line e
notice_of_sheet TextTooLong = notice 6 layer.Sheet 0 0
notice_of_sheet (NoRoom s) = notice 7 layer.Sheet s.line s.field
