-- By the code. Assumes nothing.
use native.Mathlib.Omega.{arith}
use Rattle.terminal.specs.Effects.{effect_of}
use Rattle.terminal.proofs.states.Held.effect.Goals as goal

pub returns-in-1 : goal.returns-in-1
unfolding effect_of
returns-in-1 c = record { held = rw (c.in-1.is, c.with_sync_word.ensures.held) }

pub returns-in-3 : goal.returns-in-3
unfolding effect_of
returns-in-3 c = record { held = rw (c.in-3.is, c.with_selftest.ensures.held) }

pub returns-in-4 : goal.returns-in-4
unfolding effect_of
returns-in-4 c = record { held = rw (c.in-4.is, c.with_shut.ensures.held, c.other_bus.ensures.bus) }

pub returns-in-5 : goal.returns-in-5
unfolding effect_of
returns-in-5 c = record { held = rw (c.in-5.is, c.with_shut-in-5.ensures.held, c.other_bus-in-5.ensures.bus) }

pub returns-in-6 : goal.returns-in-6
unfolding effect_of
returns-in-6 c = record { held = rw (c.in-6.is, c.with_inhibit.ensures.held) }

pub returns-in-7 : goal.returns-in-7
unfolding effect_of
returns-in-7 c = record { held = rw (c.in-7.is, c.with_inhibit-in-7.ensures.held) }

pub returns-in-8 : goal.returns-in-8
unfolding effect_of
returns-in-8 c = record { held = rw (c.in-8.is, c.fresh.ensures.held) }

pub returns-in-17 : goal.returns-in-17
unfolding effect_of
returns-in-17 c = record { held = rw (c.in-17.is, c.with_sync_word-in-17.ensures.held) }

pub returns-in_default : goal.returns-in_default
unfolding effect_of
returns-in_default c = record { held = grind arith }
