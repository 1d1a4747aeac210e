-- Demand 3 after any past: each statement at a terminal that can be reached. Assumes nothing.
use mathlib.Core.Path.{ap, ◌∙◌}
use Rattle.words.specs.Words.{address_of, has_no_other}
use Rattle.terminal.specs.declared.states.Terminal.{Terminal as State}
use Rattle.history.specs.Calls.{after_past}
use Rattle.history.specs.Demands.{AnsweredAfterAnyPast, NoWipeAfterAnyPast, StatusStandsAfterAnyPast, MarksDoNotMatterAfterAnyPast, AnswersPlain}
use Rattle.history.proofs.Answered.{answered}
use Rattle.history.proofs.Wiping.{no_wipe, status_stands}
use Rattle.history.proofs.Givens.{given_message}
use Rattle.history.proofs.Holdings.{status_settled}
use Rattle.history.proofs.Polling.{marks_do_not_matter}
use Rattle.history.proofs.Reached.{reachable}

pub answered_after_any_past : AnsweredAfterAnyPast
answered_after_any_past past = answered (after_past past) (reachable past).address

pub no_wipe_after_any_past : NoWipeAfterAnyPast
no_wipe_after_any_past past = no_wipe (after_past past) (reachable past).address

pub status_stands_after_any_past : StatusStandsAfterAnyPast
status_stands_after_any_past past = status_stands (after_past past) (reachable past).address

pub marks_do_not_matter_after_any_past : MarksDoNotMatterAfterAnyPast
marks_do_not_matter_after_any_past past = marks_do_not_matter (after_past past) (λ on. ((reachable past).message on).words)

-- the status of an answer is that which settling leaves
pub answers_plain : AnswersPlain
answers_plain past k a given =
    let s : State = after_past past in
    let says = (given_message s k a given).status in
    let settled = status_settled s (reachable past).address (reachable past).held s.message.command.0 in
    (ap address_of says ∙ settled.status, ap has_no_other says ∙ settled.spare)
