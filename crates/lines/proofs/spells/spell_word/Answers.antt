-- The four digits are spelled as any other text. Assumes nothing.
use Rattle.lines.proofs.Spellings.{spelled_as}
use Rattle.lines.proofs.spells.spell_word.Goals as goal

pub returns : goal.returns
returns c = record { text = spelled_as c.word_digits-digits.ensures.digits c.spell_text.ensures.text }
