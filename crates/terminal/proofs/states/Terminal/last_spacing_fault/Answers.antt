-- By the two flags. Assumes nothing.
use Rattle.terminal.specs.States.{spacing_in}
use Rattle.terminal.proofs.states.Terminal.last_spacing_fault.Goals as goal

pub returns-then-self : goal.returns-then-self
unfolding spacing_in
returns-then-self c = record { kind = rw c.if-self.true }

pub returns-then-self-2 : goal.returns-then-self-2
unfolding spacing_in
returns-then-self-2 c = record { kind = rw (c.if-self.false, c.if-self-2.true) }

pub returns : goal.returns
unfolding spacing_in
returns c = record { kind = rw (c.if-self.false, c.if-self-2.false) }
