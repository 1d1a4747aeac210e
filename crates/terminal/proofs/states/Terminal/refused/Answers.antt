-- No answer, the same terminal. Assumes nothing.
use Rattle.terminal.proofs.states.Terminal.refused.Goals as goal

pub returns : goal.returns
returns c = record { happened = cc }
