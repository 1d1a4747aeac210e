-- The status is that of the own address alone. Assumes nothing.
use Rattle.terminal.proofs.Wrapped.{status_is_lem}
use Rattle.terminal.proofs.states.Held.fresh.Goals as goal

pub returns : goal.returns
returns c = record { held = rw (status_is_lem _ _ c.build.ensures.word) }
