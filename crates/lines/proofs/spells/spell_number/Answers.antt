-- The text, then the digits behind it. Assumes nothing.
use native.Mathlib.Omega.{arith}
use Rattle.lines.proofs.Spellings.{then}
use Rattle.lines.proofs.spells.spell_number.Goals as goal

pub returns : goal.returns
returns c =
    let text = c.spell_text-placed.ensures.text in
    let number = c.spell_decimal.ensures in
    record { text = then text number.text; most = omega (arith, text.place, number.most) }
