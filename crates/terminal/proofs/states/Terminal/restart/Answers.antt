-- Each part fresh. Assumes nothing.
use Rattle.terminal.proofs.Moments.{none_never}
use Rattle.terminal.proofs.states.Terminal.restart.Goals as goal

pub returns : goal.returns
returns c = record { terminal = rw (c.none-message.ensures.message, c.fresh-held.ensures.held, none_never) }
