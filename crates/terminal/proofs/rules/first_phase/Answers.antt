-- By the T/R bit, and by whether it is a mode command. Assumes nothing.
use mathlib.Core.Path.{sym, ◌∙◌}
use Rattle.terminal.specs.Rules.{first_phase}
use Rattle.terminal.proofs.rules.first_phase.Goals as goal

pub returns-then-is_transmit : goal.returns-then-is_transmit
unfolding first_phase
returns-then-is_transmit c = record { phase = rw (sym c.is_transmit.ensures.answer ∙ c.if-is_transmit.true) }

pub returns-then-is_mode : goal.returns-then-is_mode
unfolding first_phase
returns-then-is_mode c = record { phase = rw (sym c.is_transmit.ensures.answer ∙ c.if-is_transmit.false, sym c.is_mode.ensures.answer ∙ c.if-is_mode.true) }

pub returns : goal.returns
unfolding first_phase
returns c = record { phase = rw (sym c.is_transmit.ensures.answer ∙ c.if-is_transmit.false, sym c.is_mode.ensures.answer ∙ c.if-is_mode.false) }
