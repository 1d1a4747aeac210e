-- The tests of the record, its spacing and its fields. Assumes nothing.
use Rattle.terminal.specs.Messages.{is_second}
use Rattle.terminal.proofs.states.Message.is_second.Goals as goal

pub returns : goal.returns
unfolding is_second
returns c = record { answer = rw (c.count-2.ensures.field, c.count.ensures.field, c.is_mode.ensures.answer, c.is_broadcast.ensures.answer, c.address.ensures.field, c.is_transmit.ensures.answer, c.is_spaced.ensures.answer, c.is_valid_record.ensures.answer) }
