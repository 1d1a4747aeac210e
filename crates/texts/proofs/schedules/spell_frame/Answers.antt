-- Three numbers, each with its name. Assumes nothing.
use native.Mathlib.Omega.{arith}
use Rattle.lines.proofs.Spellings.{then}
use Rattle.texts.proofs.schedules.spell_frame.Goals as goal

pub returns : goal.returns
returns c =
    let number = c.spell_number-numbered.ensures in
    let load = c.spell_number-loaded.ensures in
    let capacity = c.spell_number.ensures in
    record { text = then number.text (then load.text capacity.text); most = omega (arith, number.most, load.most, capacity.most) }
