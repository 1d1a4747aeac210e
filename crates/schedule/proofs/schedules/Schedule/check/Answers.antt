-- By the first message that offends, then by the first frame that is overloaded. Assumes nothing.
use mathlib.Core.Path.{sym, ◌∙◌}
use borrow.Author.Rules.{rules}
use Rattle.schedule.proofs.Fills.{loads_all}
use Rattle.schedule.proofs.Chains.{first_offends, first_exceeds, names_message, names_frame, names_none}
use Rattle.schedule.proofs.schedules.Schedule.check.Goals as goal

pub returns-in-Some : goal.returns-in-Some
returns-in-Some c =
    let first = rw c.held.ensures.messages at c.in-Some.ensures.first in
    record { outcome = names_message _ _ _ (sym c.if-is_refused.ensures.answer) _ (first ∙ first_offends _ _) }

pub returns-in-Some-first_overloaded : goal.returns-in-Some-first_overloaded
returns-in-Some-first_overloaded c =
    let none = rw c.held.ensures.messages at c.in_default.ensures.first in
    let first = rw c.loads.ensures.loads at c.in-Some-first_overloaded.ensures.first in
    record { outcome = names_frame _ _ _ (sym c.if-is_refused.ensures.answer) (none ∙ first_offends _ _) _ (first ∙ first_exceeds _ _ (loads_all _) (search rules)) }

pub returns-in-None : goal.returns-in-None
returns-in-None c =
    let none = rw c.held.ensures.messages at c.in_default.ensures.first in
    let first = rw c.loads.ensures.loads at c.in-None.ensures.first in
    record { outcome = names_none _ _ _ (sym c.if-is_refused.ensures.answer) (none ∙ first_offends _ _) (first ∙ first_exceeds _ _ (loads_all _) (search rules)) }
