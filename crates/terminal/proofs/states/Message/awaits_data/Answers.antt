-- The phase, and the words so far. Assumes nothing.
use Rattle.terminal.specs.Messages.{awaits_data}
use Rattle.terminal.proofs.states.Message.awaits_data.Goals as goal

pub returns : goal.returns
unfolding awaits_data
returns c = record { answer = rw (c.awaited.ensures.count, c.is_counting.ensures.answer) }
