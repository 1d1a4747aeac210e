-- By whether the command is exempt. Assumes nothing.
use mathlib.Core.Path.{sym, ◌∙◌}
use Rattle.terminal.proofs.states.Held.marked.Goals as goal

pub returns-then-is_exempt : goal.returns-then-is_exempt
returns-then-is_exempt c = record { held = rw (sym c.is_exempt.ensures.answer ∙ c.if-is_exempt.true) }

pub returns : goal.returns
returns c = record { held = rw (sym c.is_exempt.ensures.answer ∙ c.if-is_exempt.false, c.with_status.ensures.held, c.with-error.ensures.word) }
