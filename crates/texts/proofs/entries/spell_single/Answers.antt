-- The fields of a record, one behind the other. Assumes nothing.
use native.Mathlib.Omega.{arith}
use Rattle.lines.proofs.Spellings.{then}
use Rattle.texts.proofs.entries.spell_single.Goals as goal

pub returns : goal.returns
returns c =
    let begin = c.spell_begin-begun.ensures in
    let sync = c.spell_number-synced.ensures in
    let faults = c.spell_number-judged.ensures in
    let named = c.spell_text-named.ensures.text in
    let word = c.spell_word-worded.ensures.text in
    let parity = c.spell_number.ensures in
    record { text = then begin.text (then sync.text (then faults.text (then named (then word parity.text)))); most = omega (arith, begin.most, sync.most, faults.most, named.place, word.place, parity.most) }
