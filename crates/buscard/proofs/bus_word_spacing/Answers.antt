-- By the kind: its number is given, its distance goes out. Assumes nothing.
use mathlib.Core.Path.{refl}
use Rattle.buscard.proofs.bus_word_spacing.Goals as goal

pub returns-in-Overlapping : goal.returns-in-Overlapping
returns-in-Overlapping c = rw (← c.spacing_between.ensures.spacing, c.in-Overlapping.is) (record { kind = refl; distance = refl })

pub returns-in-BackToBack : goal.returns-in-BackToBack
returns-in-BackToBack c = rw (← c.spacing_between.ensures.spacing, c.in-BackToBack.is) (record { kind = refl; distance = refl })

pub returns-in-Separated : goal.returns-in-Separated
returns-in-Separated c = rw (← c.spacing_between.ensures.spacing, c.in-Separated.is) (record { kind = refl; distance = refl })
