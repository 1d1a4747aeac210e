-- The tests of the meaning and of the sending. Assumes nothing.
use Rattle.terminal.specs.Works.{cut_by}
use Rattle.terminal.proofs.states.Work.cuts_sending.Goals as goal

pub returns : goal.returns
unfolding cut_by
returns c = record { answer = rw (c.is_sending.ensures.answer, c.other_bus.ensures.bus, c.is_beginning.ensures.answer) }
