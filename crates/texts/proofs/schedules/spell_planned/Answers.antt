-- The command words, then the period. Assumes nothing.
use native.Mathlib.Omega.{arith}
use Rattle.lines.proofs.Spellings.{then}
use Rattle.texts.proofs.schedules.spell_planned.Goals as goal

pub returns : goal.returns
returns c =
    let begin = c.spell_text-begun.ensures.text in
    let words = c.spell_words-commanded.ensures in
    let period = c.spell_number.ensures in
    record { text = then begin (then words.text period.text); most = omega (arith, begin.place, words.most, period.most) }
