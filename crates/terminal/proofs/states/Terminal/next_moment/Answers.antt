-- As it is kept. Assumes nothing.
use mathlib.Core.Path.{refl}
use Rattle.terminal.specs.States.{moment_in}
use Rattle.terminal.proofs.states.Terminal.next_moment.Goals as goal

pub returns : goal.returns
unfolding moment_in
returns c = record { next = refl }
