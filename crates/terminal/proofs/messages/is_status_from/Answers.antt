-- The tests of the record and of its address. Assumes nothing.
use Rattle.terminal.specs.Messages.{is_status_from}
use Rattle.terminal.proofs.messages.is_status_from.Goals as goal

pub returns : goal.returns
unfolding is_status_from
returns c = record { answer = rw (c.address.ensures.field, c.is_valid_record.ensures.answer) }
