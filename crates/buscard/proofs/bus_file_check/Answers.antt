-- By what counting gave: the number goes out, or nothing changes. Assumes nothing.
use mathlib.Core.Path.{refl}
use Rattle.buscard.proofs.bus_file_check.Goals as goal

pub returns-in-Ok : goal.returns-in-Ok
returns-in-Ok c = rw (← c.count_records.ensures.counted, c.in-Ok.is) (record { refusal = refl; records = refl })

pub returns-in-Err : goal.returns-in-Err
returns-in-Err c = rw (← c.count_records.ensures.counted, c.in-Err.is) (record { refusal = c.number.ensures.number; records = refl })
