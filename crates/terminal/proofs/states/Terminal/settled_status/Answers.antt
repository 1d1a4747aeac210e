-- By whether it is exempt; else flag by flag. Assumes nothing.
use mathlib.Core.Path.{sym, ◌∙◌}
use Rattle.terminal.specs.Settling.{settled_status}
use Rattle.terminal.proofs.states.Terminal.settled_status.Goals as goal

pub returns-then-is_exempt : goal.returns-then-is_exempt
unfolding settled_status
returns-then-is_exempt c = record { status = rw (sym c.is_exempt.ensures.answer ∙ c.if-is_exempt.true) }

pub returns : goal.returns
unfolding settled_status
returns c = record { status = rw (sym c.is_exempt.ensures.answer ∙ c.if-is_exempt.false, c.with_if.ensures.status, c.requires, c.with_if-terminal.ensures.status, c.with_if-subsystem.ensures.status, c.with_if-busy.ensures.status, c.with_if-service.ensures.status) }
