-- By the test of the count field. Assumes nothing.
use borrow.Author.Tests.{eq-eqb, ne_eqb}
use Rattle.words.specs.Words.{words_of}
use Rattle.words.proofs.commands.CommandWord.words.Goals as goal

pub returns-then-count-eq0 : goal.returns-then-count-eq0
unfolding words_of
returns-then-count-eq0 c = record { count = simp (← c.count-count.ensures.field, eq-eqb _ _ c.if-count-eq0.true) }

pub returns-else-count-eq0 : goal.returns-else-count-eq0
unfolding words_of
returns-else-count-eq0 c = record { count = simp (← c.count-count.ensures.field, ne_eqb _ _ c.if-count-eq0.false) }
