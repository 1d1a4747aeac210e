-- By the code. Assumes nothing.
use borrow.Author.Tests.{eq-eqb, ne_eqb}
use Rattle.terminal.specs.Settling.{mode_words}
use Rattle.terminal.proofs.states.Terminal.mode_words.Goals as goal

pub returns-then-code-eq-TRANSMIT_VECTOR_WORD : goal.returns-then-code-eq-TRANSMIT_VECTOR_WORD
unfolding mode_words
returns-then-code-eq-TRANSMIT_VECTOR_WORD c = record { reply = rw (← c.count-code.ensures.field, eq-eqb _ _ c.if-code-eq-TRANSMIT_VECTOR_WORD.true, c.one.ensures.reply) }

pub returns-then-code-eq-TRANSMIT_LAST_COMMAND : goal.returns-then-code-eq-TRANSMIT_LAST_COMMAND
unfolding mode_words
returns-then-code-eq-TRANSMIT_LAST_COMMAND c = record { reply = rw (← c.count-code.ensures.field, ne_eqb _ _ c.if-code-eq-TRANSMIT_VECTOR_WORD.false, eq-eqb _ _ c.if-code-eq-TRANSMIT_LAST_COMMAND.true, c.one-then-code-eq-TRANSMIT_LAST_COMMAND.ensures.reply) }

pub returns-then-code-eq-TRANSMIT_BIT_WORD : goal.returns-then-code-eq-TRANSMIT_BIT_WORD
unfolding mode_words
returns-then-code-eq-TRANSMIT_BIT_WORD c = record { reply = rw (← c.count-code.ensures.field, ne_eqb _ _ c.if-code-eq-TRANSMIT_VECTOR_WORD.false, ne_eqb _ _ c.if-code-eq-TRANSMIT_LAST_COMMAND.false, eq-eqb _ _ c.if-code-eq-TRANSMIT_BIT_WORD.true, c.one-then-code-eq-TRANSMIT_BIT_WORD.ensures.reply) }

pub returns : goal.returns
unfolding mode_words
returns c = record { reply = rw (← c.count-code.ensures.field, ne_eqb _ _ c.if-code-eq-TRANSMIT_VECTOR_WORD.false, ne_eqb _ _ c.if-code-eq-TRANSMIT_LAST_COMMAND.false, ne_eqb _ _ c.if-code-eq-TRANSMIT_BIT_WORD.false, c.none.ensures.reply) }
