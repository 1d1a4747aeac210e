-- Two numbers, each with its name. Assumes nothing.
use native.Mathlib.Omega.{arith}
use Rattle.lines.proofs.Spellings.{then}
use Rattle.texts.proofs.entries.spell_counts.Goals as goal

pub returns : goal.returns
returns c =
    let first = c.spell_number-filled.ensures in
    let second = c.spell_number.ensures in
    record { text = then first.text second.text; most = omega (arith, first.most, second.most) }
