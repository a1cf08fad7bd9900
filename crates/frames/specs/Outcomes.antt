-- What `record` makes of two frames: a fault or a difference is told; else the record is stored and told.
use Rattle.std.specs.Prelude.{ℕ, List, ◌++◌, length, codes, Some, Option}
use Rattle.hosts.specs.Writing.{Outcome, only_line, or_tells}
use Rattle.sheet.specs.Notices.{fault_line}
use Rattle.sheet.specs.declared.rows.Point.{Point}
use Rattle.frames.specs.Comparing.{moving_in}
use Rattle.step.specs.Record.{record_of}
use Rattle.frames.specs.Frames.{Frames, no_step, step_between}
use Rattle.frames.specs.Lines.{difference_line, step_line}
use Rattle.frames.specs.declared.frame_files.NoStep.{NoStep}
use Rattle.frames.specs.declared.frame_files.NoStep.TheVariants as no
use Rattle.frames.specs.declared.frame_files.Recording.{Recording}
use Rattle.frames.specs.declared.frame_files.Recording.TheVariants.{Recorded, Faulty, Different}

abbrev pub with_line_feed : List ℕ → List ℕ
with_line_feed line = line ++ codes "\n"

-- ---- where there is no step
abbrev pub no_step_line : NoStep → List ℕ
no_step_line (no.Faulty file n) = fault_line n
no_step_line (no.Different d) = difference_line d

abbrev pub unrecorded : NoStep → Recording
unrecorded (no.Faulty file n) = Faulty file n
unrecorded (no.Different d) = Different d

abbrev pub told_no_step : NoStep → Outcome Recording
told_no_step why = only_line (with_line_feed (no_step_line why)) (unrecorded why)

-- ---- where there is one, of these points
abbrev pub line_of_step : List Point → List ℕ
line_of_step ps = step_line (length ps) (moving_in ps) (length (record_of ps))

abbrev pub recorded : List Point → Outcome Recording
recorded ps =
    record {
      stored = Some (record_of ps);
      line = with_line_feed (line_of_step ps);
      answer = Recorded;
    }

-- ---- of two frames
abbrev pub outcome_by : Option NoStep → List Point → Outcome Recording
outcome_by why ps = or_tells why told_no_step (recorded ps)

abbrev pub outcome : Frames → Outcome Recording
outcome f = outcome_by (no_step f) (step_between f)
