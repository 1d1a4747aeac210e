-- In the order of the rules. Assumes nothing.
use mathlib.Core.Path.{sym, ◌∙◌}
use Rattle.terminal.specs.Works.{meaning_of}
use Rattle.terminal.proofs.states.Work.meaning.Goals as goal

pub returns-then-is_sending : goal.returns-then-is_sending
unfolding meaning_of
returns-then-is_sending c = record { meaning = rw (sym c.is_sending.ensures.answer ∙ c.if-is_sending.true) }

pub returns-then-is_own : goal.returns-then-is_own
unfolding meaning_of
returns-then-is_own c = record { meaning = rw (sym c.is_sending.ensures.answer ∙ c.if-is_sending.false, sym c.is_own.ensures.answer ∙ c.if-is_own.true) }

pub returns-then-is_on : goal.returns-then-is_on
unfolding meaning_of
returns-then-is_on c = record { meaning = rw (sym c.is_sending.ensures.answer ∙ c.if-is_sending.false, sym c.is_own.ensures.answer ∙ c.if-is_own.false, sym c.is_on.ensures.answer ∙ c.if-is_on.true, c.word_meaning.ensures.meaning) }

pub returns : goal.returns
unfolding meaning_of
returns c = record { meaning = rw (sym c.is_sending.ensures.answer ∙ c.if-is_sending.false, sym c.is_own.ensures.answer ∙ c.if-is_own.false, sym c.is_on.ensures.answer ∙ c.if-is_on.false) }
