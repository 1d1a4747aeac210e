-- The text is spelled behind what waits, and the place is the one behind it. Assumes nothing.
use mathlib.Core.Path.{refl}
use Rattle.lines.proofs.sinks.Sink.append.Goals as goal

pub returns : goal.returns
returns c =
    let spelled = c.spell_text.ensures.text in
    record { place = spelled.place; block = spelled.bytes; goes = record { file = refl; stays = λ h. h } }
