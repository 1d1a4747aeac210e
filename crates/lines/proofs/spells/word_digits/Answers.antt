-- The four digits are the word's text. Assumes nothing.
use Rattle.lines.proofs.Texts.{word_spelt}
use Rattle.lines.proofs.spells.word_digits.Goals as goal

pub returns : goal.returns
returns c = record { digits = word_spelt _ _ _ _ _ c.digit.ensures.digit c.digit-2.ensures.digit c.digit-3.ensures.digit c.digit-4.ensures.digit }
