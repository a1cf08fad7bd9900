-- The number, the layer and the two places of every fault of a step and of its writer.
use Rattle.sheet.specs.Checks.{notice}
use Rattle.sheet.specs.declared.notices.Layer.TheVariants.{Step, Writer}
use Rattle.sheet.specs.declared.notices.Notice.{Notice}
use Rattle.step.specs.declared.faults.StepFault.{StepFault}
use Rattle.step.specs.declared.faults.StepFault.TheVariants as step
use Rattle.step.specs.declared.faults.WriterFault.{WriterFault}
use Rattle.step.specs.declared.faults.WriterFault.TheVariants as writer

abbrev pub notice_of_step : StepFault → Notice
notice_of_step step.TableTooShort = notice 13 Step 0 0
notice_of_step (step.EndsEarly a) = notice 8 Step a.point a.field
notice_of_step (step.MapTooLarge a) = notice 9 Step a.point a.field
notice_of_step (step.MoveOfZero a) = notice 10 Step a.point a.field
notice_of_step (step.EndOutside a) = notice 11 Step a.point a.field
notice_of_step step.BytesLeft = notice 12 Step 0 0

abbrev pub notice_of_writer : WriterFault → Notice
notice_of_writer writer.TableTooShort = notice 13 Writer 0 0
notice_of_writer writer.OutputTooShort = notice 14 Writer 0 0
