-- By cases on what the table says. Assumes nothing.
use Rattle.words.specs.Modes.{is_allowed, allows}
use Rattle.words.proofs.modes.is_allowed.Goals as goal

pub returns-in-None : goal.returns-in-None
unfolding is_allowed allows
returns-in-None c = record { answer = rw (← c.look_up.ensures.listing, c.in-None.is) }

pub returns-in-Some : goal.returns-in-Some
unfolding is_allowed allows
returns-in-Some c = record { answer = rw (c.is_broadcast.ensures.answer, ← c.look_up.ensures.listing, c.in-Some.is) }
