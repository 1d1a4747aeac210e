-- By whether there is one. Assumes nothing.
use Rattle.terminal.specs.Messages.{is_sending}
use Rattle.terminal.proofs.messages.is_sending.Goals as goal

pub returns-in-Some : goal.returns-in-Some
unfolding is_sending
returns-in-Some c = record { answer = rw (c.in-Some.is, c.is_sent.ensures.answer) }

pub returns-in-None : goal.returns-in-None
unfolding is_sending
returns-in-None c = record { answer = rw c.in-None.is }
