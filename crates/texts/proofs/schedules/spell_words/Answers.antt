-- One word, or two with the byte between them. Assumes nothing.
use native.Mathlib.Omega.{arith}
use Rattle.lines.proofs.Spellings.{spelled_as}
use Rattle.texts.proofs.Choices.{words_one, words_two}
use Rattle.texts.proofs.schedules.spell_words.Goals as goal

pub returns-then-message-eq1 : goal.returns-then-message-eq1
returns-then-message-eq1 c =
    let first = c.spell_word.ensures.text in
    record { text = spelled_as (words_one _ _ c.if-message-eq1.true) first; most = omega (arith, first.place) }

pub returns : goal.returns
returns c =
    let both = c.spell_pair.ensures in
    record { text = spelled_as (words_two _ _ c.if-message-eq1.false) both.text; most = both.most }
