-- By the event. Assumes nothing.
use mathlib.Core.Path.{sym, ap}
use Rattle.terminal.specs.Works.{told_of}
use Rattle.terminal.proofs.events.Event.told.Goals as goal

pub returns-in-Mark : goal.returns-in-Mark
returns-in-Mark c = record { told = sym (ap told_of c.in-Mark.is) }

pub returns-in-Word : goal.returns-in-Word
returns-in-Word c = record { told = sym (ap told_of c.in-Word.is) }
