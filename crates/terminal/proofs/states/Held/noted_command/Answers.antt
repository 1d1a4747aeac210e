-- By whether it is transmit last command to the own address. Assumes nothing.
use Rattle.terminal.specs.Rules.{noted_command}
use Rattle.terminal.proofs.states.Held.noted_command.Goals as goal

pub returns-then-is_exempt-count : goal.returns-then-is_exempt-count
unfolding noted_command
returns-then-is_exempt-count c = record { held = rw (← c.is_exempt.ensures.answer, ← c.count.ensures.field, c.if-is_exempt-count.true) }

pub returns : goal.returns
unfolding noted_command
returns c = record { held = rw (← c.is_exempt.ensures.answer, ← c.count.ensures.field, c.if-is_exempt-count.false, c.with_command.ensures.held) }
