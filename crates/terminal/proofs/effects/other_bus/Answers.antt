-- By the bus. Assumes nothing.
use borrow.Author.Tests.{eq-eqb, ne_eqb}
use Rattle.terminal.specs.Settling.{other_bus}
use Rattle.terminal.proofs.effects.other_bus.Goals as goal

pub returns-then-bus-eq-BUS_A : goal.returns-then-bus-eq-BUS_A
unfolding other_bus
returns-then-bus-eq-BUS_A c = record { bus = rw (eq-eqb _ _ c.if-bus-eq-BUS_A.true) }

pub returns-else-bus-eq-BUS_A : goal.returns-else-bus-eq-BUS_A
unfolding other_bus
returns-else-bus-eq-BUS_A c = record { bus = rw (ne_eqb _ _ c.if-bus-eq-BUS_A.false) }
