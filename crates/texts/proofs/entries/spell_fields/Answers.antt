-- The text, the address, the direction, the rest. Assumes nothing.
use native.Mathlib.Omega.{arith}
use Rattle.lines.proofs.Spellings.{then}
use Rattle.texts.proofs.entries.spell_fields.Goals as goal

pub returns : goal.returns
returns c =
    let text = c.spell_text-begun.ensures.text in
    let address = c.spell_address-addressed.ensures in
    let direction = c.spell_direction-directed.ensures in
    let kind = c.spell_kind.ensures in
    record { text = then text (then address.text (then direction.text kind.text)); most = omega (arith, text.place, address.most, direction.most, kind.most) }
