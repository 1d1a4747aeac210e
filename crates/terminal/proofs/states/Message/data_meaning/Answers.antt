-- By whether it is the next data word. Assumes nothing.
use Rattle.terminal.specs.Works.{data_meaning}
use Rattle.terminal.proofs.states.Message.data_meaning.Goals as goal

pub returns-then-awaits_data-is_next_data : goal.returns-then-awaits_data-is_next_data
unfolding data_meaning
returns-then-awaits_data-is_next_data c = record { meaning = rw (← c.awaits_data.ensures.answer, ← c.is_next_data.ensures.answer, c.if-awaits_data-is_next_data.true) }

pub returns : goal.returns
unfolding data_meaning
returns c = record { meaning = rw (← c.awaits_data.ensures.answer, ← c.is_next_data.ensures.answer, c.if-awaits_data-is_next_data.false) }
