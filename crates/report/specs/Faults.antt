-- The number, the layer and the two places of every fault of a report.
use Rattle.std.specs.Prelude.{ℕ}
use Rattle.sheet.specs.Checks.{notice}
use Rattle.sheet.specs.declared.notices.Layer.TheVariants.{Report}
use Rattle.sheet.specs.declared.notices.Notice.{Notice}
use Rattle.motion.specs.declared.shapes.Kind.{Kind}
use Rattle.motion.specs.declared.shapes.Kind.TheVariants.{Vf, Ee}
use Rattle.report.specs.declared.faults.ReportFault.{ReportFault}
use Rattle.report.specs.declared.faults.ReportFault.TheVariants.{TableTooShort, NotOfTheSheet, OutputTooShort}

-- the VF list, or the EE list
abbrev pub place_of : Kind → ℕ
place_of Vf = 0
place_of Ee = 1

abbrev pub notice_of_report : ReportFault → Notice
notice_of_report TableTooShort = notice 16 Report 0 0
notice_of_report (NotOfTheSheet i l) = notice 19 Report i (place_of l)
notice_of_report OutputTooShort = notice 23 Report 0 0
