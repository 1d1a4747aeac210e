-- By whether it is a time mark. Assumes nothing.
use Rattle.terminal.specs.Works.{heard_meaning}
use Rattle.terminal.proofs.states.Work.heard_meaning.Goals as goal

pub returns-then-told : goal.returns-then-told
unfolding heard_meaning
returns-then-told c = record { meaning = rw c.if-told.true }

pub returns : goal.returns
unfolding heard_meaning
returns c = record { meaning = rw (c.if-told.false, c.meaning.ensures.meaning) }
