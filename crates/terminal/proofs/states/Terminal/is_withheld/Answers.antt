-- The address, and the bus. Assumes nothing.
use Rattle.terminal.specs.Settling.{is_withheld}
use Rattle.terminal.proofs.states.Terminal.is_withheld.Goals as goal

pub returns : goal.returns
unfolding is_withheld
returns c = record { answer = rw (c.is_shut.ensures.answer, c.is_broadcast.ensures.answer) }
