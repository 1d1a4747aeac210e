-- By the tests of the command. Assumes nothing.
use mathlib.Core.Path.{sym, ◌∙◌}
use Rattle.terminal.specs.Settling.{legal_reply}
use Rattle.terminal.proofs.states.Terminal.legal_reply.Goals as goal

pub returns-then-is_mode : goal.returns-then-is_mode
unfolding legal_reply
returns-then-is_mode c = record { reply = rw (sym c.is_mode.ensures.answer ∙ c.if-is_mode.true, c.mode_words.ensures.reply) }

pub returns-then-is_transmit-self : goal.returns-then-is_transmit-self
unfolding legal_reply
returns-then-is_transmit-self c = record { reply = rw (sym c.is_mode.ensures.answer ∙ c.if-is_mode.false, ← c.is_transmit.ensures.answer, c.if-is_transmit-self.true, c.from_table.ensures.reply) }

pub returns : goal.returns
unfolding legal_reply
returns c = record { reply = rw (sym c.is_mode.ensures.answer ∙ c.if-is_mode.false, ← c.is_transmit.ensures.answer, c.if-is_transmit-self.false, c.none.ensures.reply) }
