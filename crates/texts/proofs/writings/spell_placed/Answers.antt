-- The line of a message. Assumes nothing.
use native.Mathlib.Omega.{arith}
use Rattle.lines.proofs.Spellings.{then, spelled_as}
use Rattle.texts.proofs.Lines.{message_line}
use Rattle.texts.proofs.writings.spell_placed.Goals as goal

pub returns : goal.returns
returns c =
    let begin = c.spell_text-begun.ensures.text in
    let words = c.spell_words-commanded.ensures in
    let period = c.spell_number-timed.ensures in
    let first = c.spell_number-told.ensures in
    let end = c.spell_byte.ensures.text in
    record { text = spelled_as (message_line _ _) (then begin (then words.text (then period.text (then first.text end)))); most = omega (arith, begin.place, words.most, period.most, first.most, end.place) }
