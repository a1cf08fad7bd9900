use Rattle.std.proofs.Common.{◌≡◌, ◌++◌, take, Ok, Err, subst}
use Rattle.std.proofs.lemmas.Result.{err_from_is_err_and}
use Rattle.hosts.specs.Writing.{printing, storing, WritesSo}
use Rattle.hosts.proofs.Printing.{printed_and, not_printed}
use Rattle.hosts.proofs.Writing.{stored_once, written_then, written_short}
use Rattle.frames.specs.Outcomes.{line_of_step, with_line_feed}
use Rattle.frames.specs.declared.frame_files.Recording.{Recording}
use Rattle.frames.specs.declared.frame_files.Recording.TheVariants.{Recorded}
use Rattle.frames.proofs.recording.record_rows.Goals as goal

pub returns-in_err-store : goal.returns-in_err-store
returns-in_err-store g c =
    let text = with_line_feed (line_of_step (take c.args.draft.now.points c.args.points.now)) in
    let s = c.args.host.now in
    let t = c.store.new.self in
    let r = c.from_residual.result in
    let fault = err_from_is_err_and r c.from_residual.ensures.1 in
    subst (λ bytes. WritesSo g.H.Host.does g.H.Host.fails (storing bytes ++ printing text) (λ (x : Recording). x ≡ Recorded) s r t) c.record_in.ensures
    (written_short g.H.Host.does g.H.Host.fails (λ (x : Recording). x ≡ Recorded) s t (storing c.record_in.result.now) (printing text) fault.0 r
    (rw fault.2 (stored_once g.H.Host.does g.H.Host.fails (λ (x : Recording). x ≡ Recorded) s t c.record_in.result.now (Err c.in_err-store.field-0.0) c.in_err-store.ensures.stored)) fault.1)

pub returns-in_err-print_step : goal.returns-in_err-print_step
returns-in_err-print_step g c =
    let text = with_line_feed (line_of_step (take c.args.draft.now.points c.args.points.now)) in
    let s = c.args.host.now in
    let t = c.store.new.self in
    let u = c.print_step.new.host in
    let r = c.from_residual-in_err-print_step.result in
    let fault = err_from_is_err_and r c.from_residual-in_err-print_step.ensures.1 in
    subst (λ bytes. WritesSo g.H.Host.does g.H.Host.fails (storing bytes ++ printing text) (λ (x : Recording). x ≡ Recorded) s r u) c.record_in.ensures
    (written_then g.H.Host.does g.H.Host.fails (λ (x : Recording). Unit {0}) (λ (x : Recording). x ≡ Recorded) s t u (storing c.record_in.result.now) (printing text) Recorded r
    (stored_once g.H.Host.does g.H.Host.fails (λ (x : Recording). Unit {0}) s t c.record_in.result.now (Ok Recorded) (c.in_ok-store.ensures.stored, tt))
    (not_printed g.H.Host.does g.H.Host.fails t u text Recorded fault.0 r (rw fault.2 c.in_err-print_step.ensures) fault.1))

pub returns : goal.returns
returns g c =
    let text = with_line_feed (line_of_step (take c.args.draft.now.points c.args.points.now)) in
    let s = c.args.host.now in
    let t = c.store.new.self in
    let u = c.print_step.new.host in
    subst (λ bytes. WritesSo g.H.Host.does g.H.Host.fails (storing bytes ++ printing text) (λ (x : Recording). x ≡ Recorded) s (Ok Recorded) u) c.record_in.ensures
    (written_then g.H.Host.does g.H.Host.fails (λ (x : Recording). Unit {0}) (λ (x : Recording). x ≡ Recorded) s t u (storing c.record_in.result.now) (printing text) Recorded (Ok Recorded)
    (stored_once g.H.Host.does g.H.Host.fails (λ (x : Recording). Unit {0}) s t c.record_in.result.now (Ok Recorded) (c.in_ok-store.ensures.stored, tt))
    (printed_and g.H.Host.does g.H.Host.fails t u text Recorded c.in_ok-print_step.ensures))
