-- The phase, and the bus. Assumes nothing.
use Rattle.terminal.specs.Messages.{is_on}
use Rattle.terminal.proofs.states.Message.is_on.Goals as goal

pub returns : goal.returns
unfolding is_on
returns c = record { answer = rw c.is_under_way.ensures.answer }
