-- As many digits as hold the number, in their place. Assumes nothing.
use borrow.Author.Rules.{rules}
use Rattle.lines.proofs.Spellings.{number_spelled}
use Rattle.lines.proofs.spells.spell_decimal.Goals as goal

pub returns : goal.returns
returns c =
    let spelled = number_spelled _ _ _ _ _ (search rules) (c.count_digits-count.ensures.count, c.count_digits-count.ensures.most) c.spell_digits.ensures.block in
    record { text = spelled.0; most = spelled.1 }
