-- The text, then the line end. Assumes nothing.
use native.Mathlib.Omega.{arith}
use Rattle.lines.proofs.Spellings.{then}
use Rattle.texts.proofs.puts.spell_line.Goals as goal

pub returns : goal.returns
returns c =
    let told = c.spell_entry-told.ensures in
    let end = c.spell_byte.ensures.text in
    record { text = then told.text end; most = omega (arith, told.most, end.place) }
