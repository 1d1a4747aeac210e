-- The time, then the bus. Assumes nothing.
use native.Mathlib.Omega.{arith}
use Rattle.lines.proofs.Spellings.{then}
use Rattle.texts.proofs.entries.spell_begin.Goals as goal

pub returns : goal.returns
returns c =
    let time = c.spell_decimal-timed.ensures in
    let bus = c.spell_bus.ensures in
    record { text = then time.text bus.text; most = omega (arith, time.most, bus.most) }
