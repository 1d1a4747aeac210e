-- Where it fits nothing moves; else what waits goes out. Assumes nothing.
use mathlib.Core.Path.{refl, sym, ◌∙◌}
use Rattle.lines.proofs.Waits.{room_behind, room_front}
use Rattle.lines.proofs.sinks.Sink.with_room.Goals as goal

pub returns-then-fits : goal.returns-then-fits
returns-then-fits c = record { place = room_behind _ _ (sym c.fits.ensures.fits ∙ c.if-fits.true); goes = record { file = refl; stays = λ h. h } }

pub returns : goal.returns
returns c =
    let flushed = c.flush.ensures in
    record { place = flushed.place ∙ room_front _ _ (sym c.fits.ensures.fits ∙ c.if-fits.false); goes = flushed.goes }
