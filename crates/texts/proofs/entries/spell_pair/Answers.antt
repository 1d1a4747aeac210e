-- A word, a comma, a word. Assumes nothing.
use native.Mathlib.Omega.{arith}
use Rattle.lines.proofs.Spellings.{then}
use Rattle.texts.proofs.entries.spell_pair.Goals as goal

pub returns : goal.returns
returns c =
    let first = c.spell_word-begun.ensures.text in
    let comma = c.spell_byte-parted.ensures.text in
    let second = c.spell_word.ensures.text in
    record { text = then first (then comma second); most = omega (arith, first.place, comma.place, second.place) }
