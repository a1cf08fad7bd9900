use Rattle.std.proofs.Common.{subst}
use Rattle.inspection.specs.SlipsOut.{SlipsAgree}
use Rattle.inspection.proofs.Blind.{blind, marks_unread}
use Rattle.inspection.proofs.OneToOne.{kept_by_run, agree_in, number_in, accepted_back}
use Rattle.inspection.proofs.reviewing.slips_out.Goals as goal

pub returns-clause-none_lost : goal.returns-clause-none_lost
returns-clause-none_lost c = λ set d sheet h out t run is.
    let kept = kept_by_run set d sheet run in
    subst (SlipsAgree out) is (record { one_to_one = agree_in out t.lists kept; number = number_in out t.lists kept; accepted = accepted_back out t.lists kept })

pub returns-clause-blind : goal.returns-clause-blind
returns-clause-blind c = λ q. blind q

pub returns-clause-unread : goal.returns-clause-unread
returns-clause-unread c = λ set. marks_unread set
