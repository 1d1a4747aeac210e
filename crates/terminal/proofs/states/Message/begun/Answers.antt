-- The record's fields. Assumes nothing.
use Rattle.terminal.specs.Rules.{begun_of}
use Rattle.terminal.proofs.states.Message.begun.Goals as goal

pub returns : goal.returns
unfolding begun_of
returns c = record { message = rw (c.build.ensures.message, c.first_phase-phase.ensures.phase) }
