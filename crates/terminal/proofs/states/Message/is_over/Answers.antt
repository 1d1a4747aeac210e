-- By the one limit or the other. Assumes nothing.
use Rattle.terminal.proofs.states.Message.is_over.Goals as goal

pub returns : goal.returns
returns c = record { answer = rw (c.is_overdue.ensures.answer, c.is_late.ensures.answer) }
