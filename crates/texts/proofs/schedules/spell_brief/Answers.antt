-- Three numbers, each with its name. Assumes nothing.
use native.Mathlib.Omega.{arith}
use Rattle.lines.proofs.Spellings.{then}
use Rattle.lines.specs.Spells.{text_of}
use Rattle.texts.proofs.Choices.{number_as}
use Rattle.texts.proofs.schedules.spell_brief.Goals as goal

pub returns : goal.returns
returns c =
    let number = c.spell_number-numbered.ensures in
    let first = c.spell_number-placed.ensures in
    let load = c.spell_number.ensures in
    record { text = then number.text (then first.text (number_as (text_of " load=") c.load.ensures.ticks load.text)); most = omega (arith, number.most, first.most, load.most) }
