-- By what reading gave: its fields go out, or nothing changes. Assumes nothing.
use mathlib.Core.Path.{refl}
use Rattle.buscard.proofs.bus_record_read.Goals as goal

pub returns-in-Ok : goal.returns-in-Ok
returns-in-Ok c = rw (← c.read_record.ensures.read, c.in-Ok.is) (record { refusal = refl; time = refl; bus = refl; sync = refl; faults = refl; word = refl; parity = refl })

pub returns-in-Err : goal.returns-in-Err
returns-in-Err c = rw (← c.read_record.ensures.read, c.in-Err.is) (record { refusal = c.number.ensures.number; time = refl; bus = refl; sync = refl; faults = refl; word = refl; parity = refl })
