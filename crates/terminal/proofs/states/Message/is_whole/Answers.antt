-- The phase, and the words so far. Assumes nothing.
use Rattle.terminal.specs.Messages.{is_whole}
use Rattle.terminal.proofs.states.Message.is_whole.Goals as goal

pub returns : goal.returns
unfolding is_whole
returns c = record { answer = rw (c.awaited.ensures.count, c.is_counting.ensures.answer) }
