-- What the command notes, begins and cuts. Assumes nothing.
use Rattle.terminal.specs.Rules.{rule4}
use Rattle.terminal.proofs.states.Work.begun.Goals as goal

pub returns : goal.returns
unfolding rule4
returns c = record { work = rw (c.build.ensures.work, c.begun-message.ensures.message, c.noted-held.ensures.held) }
