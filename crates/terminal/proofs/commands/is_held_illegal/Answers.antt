-- The tests of the code, and the code table's. Assumes nothing.
use Rattle.terminal.specs.Commands.{is_held_illegal}
use Rattle.terminal.proofs.commands.is_held_illegal.Goals as goal

pub returns : goal.returns
unfolding is_held_illegal
returns c = record { answer = rw (c.is_allowed.ensures.answer, c.count-code.ensures.field) }
