-- By whether a data word is awaited. Assumes nothing.
use mathlib.Core.Path.{sym, ◌∙◌}
use Rattle.terminal.specs.Rules.{fault_in}
use Rattle.terminal.proofs.states.Message.spacing_fault.Goals as goal

pub returns-then-awaits_data : goal.returns-then-awaits_data
unfolding fault_in
returns-then-awaits_data c = record { fault = rw (sym c.awaits_data.ensures.answer ∙ c.if-awaits_data.true, c.of_spacing.ensures.fault, c.spacing_between.ensures.spacing) }

pub returns : goal.returns
unfolding fault_in
returns c = record { fault = rw (sym c.awaits_data.ensures.answer ∙ c.if-awaits_data.false) }
