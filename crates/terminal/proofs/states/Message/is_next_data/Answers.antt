-- The tests of the record and its spacing. Assumes nothing.
use Rattle.terminal.specs.Messages.{is_next_data}
use Rattle.terminal.proofs.states.Message.is_next_data.Goals as goal

pub returns : goal.returns
unfolding is_next_data
returns c = record { answer = rw (c.is_spaced.ensures.answer, c.is_valid_record.ensures.answer) }
