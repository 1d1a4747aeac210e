-- By what judging gave: the verdict and the number looked at go out, or nothing changes. Assumes nothing.
use mathlib.Core.Path.{refl}
use Rattle.buscard.proofs.bus_verdict_looked.Goals as goal

pub returns-in-Ok : goal.returns-in-Ok
returns-in-Ok c = rw (← c.judge.ensures.judged, c.in-Ok.is) (record { refusal = refl; verdict = c.number.ensures.number; looked = refl })

pub returns-in-Err : goal.returns-in-Err
returns-in-Err c = rw (← c.judge.ensures.judged, c.in-Err.is) (record { refusal = c.number-in-Err.ensures.number; verdict = refl; looked = refl })
