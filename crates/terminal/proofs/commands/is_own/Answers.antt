-- The tests of the record and of its address. Assumes nothing.
use Rattle.terminal.specs.Commands.{is_own}
use Rattle.terminal.proofs.commands.is_own.Goals as goal

pub returns : goal.returns
unfolding is_own
returns c = record { answer = rw (c.is_broadcast.ensures.answer, c.address.ensures.field, c.is_valid_record.ensures.answer) }
