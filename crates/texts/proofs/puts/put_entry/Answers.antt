-- Apart, or in its place. Assumes nothing.
use mathlib.Core.Path.{refl}
use Rattle.texts.proofs.Choices.{behind_place, behind_block}
use Rattle.texts.proofs.puts.put_entry.Goals as goal

pub returns : goal.returns
returns c =
    let line = c.spell_line.ensures in
    let room = c.if-sink-gt-LAST_PLACE.false in
    record { place = behind_place _ _ _ _ _ line.text line.most room; block = behind_block _ _ _ _ _ line.text line.most room; goes = record { file = refl; stays = λ h. h } }
