-- By the T/R bit. Assumes nothing.
use mathlib.Core.Path.{sym, ◌∙◌}
use Rattle.terminal.specs.Commands.{mask_of}
use Rattle.terminal.proofs.commands.mask.Goals as goal

pub returns-then-is_transmit : goal.returns-then-is_transmit
unfolding mask_of
returns-then-is_transmit c = record { mask = rw (sym c.is_transmit.ensures.answer ∙ c.if-is_transmit.true, c.subaddress-at.ensures.field) }

pub returns-else-is_transmit : goal.returns-else-is_transmit
unfolding mask_of
returns-else-is_transmit c = record { mask = rw (sym c.is_transmit.ensures.answer ∙ c.if-is_transmit.false, c.subaddress-at.ensures.field) }
