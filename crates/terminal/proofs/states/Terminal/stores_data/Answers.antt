-- The tests of the command and of the host. Assumes nothing.
use Rattle.terminal.specs.Settling.{stores_data}
use Rattle.terminal.proofs.states.Terminal.stores_data.Goals as goal

pub returns : goal.returns
unfolding stores_data
returns c = record { answer = rw (c.is_transmit.ensures.answer, c.is_mode.ensures.answer, c.requires) }
