-- By whether the command is legal. Assumes nothing.
use mathlib.Core.Path.{sym, ◌∙◌}
use Rattle.terminal.specs.Settling.{reply_of}
use Rattle.terminal.proofs.states.Terminal.reply.Goals as goal

pub returns-then-legal : goal.returns-then-legal
unfolding reply_of
returns-then-legal c = record { reply = rw (sym c.requires.0 ∙ c.if-legal.true, c.legal_reply.ensures.reply) }

pub returns-else-legal : goal.returns-else-legal
unfolding reply_of
returns-else-legal c = record { reply = rw (sym c.requires.0 ∙ c.if-legal.false, c.none.ensures.reply) }
