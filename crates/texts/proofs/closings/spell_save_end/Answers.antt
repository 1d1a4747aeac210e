-- The first byte, then three numbers. Assumes nothing.
use native.Mathlib.Omega.{arith}
use Rattle.lines.proofs.Spellings.{then}
use Rattle.texts.proofs.closings.spell_save_end.Goals as goal

pub returns : goal.returns
returns c =
    let begin = c.spell_text-begun.ensures.text in
    let first = c.spell_first-judged.ensures in
    let records = c.spell_number-kept.ensures in
    let skipped = c.spell_number-skipped.ensures in
    let bytes = c.spell_number.ensures in
    record { text = then begin (then first.text (then records.text (then skipped.text bytes.text))); most = omega (arith, begin.place, first.most, records.most, skipped.most, bytes.most) }
