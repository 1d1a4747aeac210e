-- Each part fresh. Assumes nothing.
use Rattle.terminal.proofs.states.Terminal.fresh.Goals as goal

pub returns : goal.returns
returns c = record { terminal = rw (c.none-message.ensures.message, c.fresh-held.ensures.held, c.fresh-host.ensures.host) }
