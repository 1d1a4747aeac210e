-- By whether it is exempt, and by whether it goes to 31. Assumes nothing.
use mathlib.Core.Path.{sym, ◌∙◌}
use Rattle.terminal.specs.Rules.{noted_status}
use Rattle.terminal.proofs.states.Held.noted_status.Goals as goal

pub returns-then-is_exempt : goal.returns-then-is_exempt
unfolding noted_status
returns-then-is_exempt c = record { held = rw (sym c.is_exempt.ensures.answer ∙ c.if-is_exempt.true) }

pub returns-then-is_broadcast : goal.returns-then-is_broadcast
unfolding noted_status
returns-then-is_broadcast c = record { held = rw (sym c.is_exempt.ensures.answer ∙ c.if-is_exempt.false, sym c.is_broadcast.ensures.answer ∙ c.if-is_broadcast.true, c.with_status.ensures.held, c.with.ensures.word, c.build-address.ensures.word) }

pub returns : goal.returns
unfolding noted_status
returns c = record { held = rw (sym c.is_exempt.ensures.answer ∙ c.if-is_exempt.false, sym c.is_broadcast.ensures.answer ∙ c.if-is_broadcast.false, c.with_status-2.ensures.held, c.build-address.ensures.word) }
