-- One after the other. Assumes nothing.
use Rattle.terminal.proofs.states.Held.noted.Goals as goal

pub returns : goal.returns
returns c = record { held = rw (c.noted_command.ensures.held, c.noted_status-stored.ensures.held) }
