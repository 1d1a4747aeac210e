-- By whether it is on. Assumes nothing.
use Rattle.terminal.proofs.answers.with_if.Goals as goal

pub returns-then-on : goal.returns-then-on
returns-then-on c = record { status = rw (c.if-on.true, c.with.ensures.word) }
