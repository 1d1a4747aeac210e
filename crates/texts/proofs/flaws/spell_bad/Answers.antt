-- Each test is the one of the definition. Assumes nothing.
use Rattle.lines.proofs.Spellings.{spelled_as}
use Rattle.texts.proofs.Choices.{parity_flaw}
use Rattle.texts.proofs.flaws.spell_bad.Goals as goal

pub returns : goal.returns
returns c =
    let spelled = c.spell_flaws.ensures in
    record { text = spelled_as (parity_flaw _ _ _ _ _ _ c.parity_bit.ensures.bit) spelled.text; most = spelled.most }
