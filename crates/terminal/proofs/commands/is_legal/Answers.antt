-- By whether it is a mode command. Assumes nothing.
use mathlib.Core.Path.{sym, ◌∙◌}
use Rattle.terminal.specs.Commands.{is_legal}
use Rattle.terminal.proofs.commands.is_legal.Goals as goal

pub returns-then-is_mode : goal.returns-then-is_mode
unfolding is_legal
returns-then-is_mode c = record { answer = rw (sym c.is_mode.ensures.answer ∙ c.if-is_mode.true, c.is_held_illegal.ensures.answer, c.mask_allows-allowed.ensures.answer, c.count.ensures.field, c.mask.ensures.mask) }

pub returns-else-is_mode : goal.returns-else-is_mode
unfolding is_legal
returns-else-is_mode c = record { answer = rw (sym c.is_mode.ensures.answer ∙ c.if-is_mode.false, c.is_broadcast.ensures.answer, c.is_transmit.ensures.answer, c.mask_allows-allowed.ensures.answer, c.count.ensures.field, c.mask.ensures.mask) }
