-- Four numbers, each with its name. Assumes nothing.
use native.Mathlib.Omega.{arith}
use Rattle.lines.proofs.Spellings.{then}
use Rattle.lines.specs.Spells.{text_of}
use Rattle.texts.proofs.Choices.{number_as}
use Rattle.texts.proofs.closings.spell_refused.Goals as goal

pub returns : goal.returns
returns c =
    let refusal = c.spell_number-refused.ensures in
    let place = c.spell_number-counted.ensures in
    let byte = c.spell_number-found.ensures in
    let entries = c.spell_number.ensures in
    record { text = then (number_as (text_of "# refused ") c.from.ensures refusal.text) (then place.text (then byte.text entries.text)); most = omega (arith, refusal.most, place.most, byte.most, entries.most) }
