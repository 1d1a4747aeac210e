-- By whether the time of the message is over. Assumes nothing.
use mathlib.Core.Path.{sym, ◌∙◌}
use Rattle.terminal.specs.Rules.{rule2}
use Rattle.terminal.proofs.states.Work.rule2.Goals as goal

pub returns-then-is_over : goal.returns-then-is_over
unfolding rule2
returns-then-is_over c = record { work = rw (sym c.is_over.ensures.answer ∙ c.if-is_over.true, c.faulty.ensures.work, c.time_fault-fault.ensures.fault) }

pub returns : goal.returns
unfolding rule2
returns c = record { work = rw (sym c.is_over.ensures.answer ∙ c.if-is_over.false) }
