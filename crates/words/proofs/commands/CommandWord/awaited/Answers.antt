-- By the T/R bit, by whether it is a mode command, by the code. Assumes nothing.
use mathlib.Core.Path.{sym, ◌∙◌}
use Rattle.words.specs.Words.{awaited_of}
use Rattle.words.proofs.Truth.{byte_of}
use Rattle.words.proofs.commands.CommandWord.awaited.Goals as goal

pub returns-then-is_transmit : goal.returns-then-is_transmit
unfolding awaited_of
returns-then-is_transmit c = record { count = rw (sym c.is_transmit.ensures.answer ∙ c.if-is_transmit.true) }

pub returns-then-is_mode : goal.returns-then-is_mode
unfolding awaited_of
returns-then-is_mode c = record { count = c.from.ensures ∙ rw (sym c.is_transmit.ensures.answer ∙ c.if-is_transmit.false, sym c.is_mode.ensures.answer ∙ c.if-is_mode.true, ← c.count.ensures.field) (byte_of _) }

pub returns : goal.returns
unfolding awaited_of
returns c = record { count = rw (sym c.is_transmit.ensures.answer ∙ c.if-is_transmit.false, sym c.is_mode.ensures.answer ∙ c.if-is_mode.false, c.words.ensures.count) }
