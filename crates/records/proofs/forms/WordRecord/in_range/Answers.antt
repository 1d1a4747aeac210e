-- The tests of the fields, that of the time by `on_clock`. Assumes nothing.
use Rattle.records.proofs.forms.WordRecord.in_range.Goals as goal

pub returns : goal.returns
returns c = record { answer = rw c.on_clock.ensures.answer }
