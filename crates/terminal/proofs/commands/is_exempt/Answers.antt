-- The tests of the fields. Assumes nothing.
use Rattle.terminal.specs.Commands.{is_exempt}
use Rattle.terminal.proofs.commands.is_exempt.Goals as goal

pub returns : goal.returns
unfolding is_exempt
returns c = record { answer = rw (c.is_mode.ensures.answer, c.is_transmit.ensures.answer, c.address.ensures.field, c.count-code.ensures.field) }
