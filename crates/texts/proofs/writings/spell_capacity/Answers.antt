-- The line of all frames. Assumes nothing.
use native.Mathlib.Omega.{arith}
use Rattle.lines.proofs.Spellings.{then, spelled_as}
use Rattle.texts.proofs.Lines.{capacity_line}
use Rattle.texts.proofs.writings.spell_capacity.Goals as goal

pub returns : goal.returns
returns c =
    let number = c.spell_number-told.ensures in
    let end = c.spell_byte.ensures.text in
    record { text = spelled_as (capacity_line _) (then number.text end); most = omega (arith, number.most, end.place) }
