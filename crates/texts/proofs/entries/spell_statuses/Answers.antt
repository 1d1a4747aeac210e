-- No word, one, or two. Assumes nothing.
use native.Mathlib.Omega.{arith}
use mathlib.Core.Path.{sym, ap}
use Rattle.lines.proofs.Spellings.{then, spelled_as}
use Rattle.texts.specs.Entries.{statuses_text}
use Rattle.texts.proofs.entries.spell_statuses.Goals as goal

pub returns-in-None : goal.returns-in-None
returns-in-None c =
    let spelled = c.spell_text.ensures.text in
    record { text = spelled_as (ap statuses_text (sym c.in-None.is)) spelled; most = omega (arith, spelled.place) }

pub returns-in-One : goal.returns-in-One
returns-in-One c =
    let text = c.spell_text-begun.ensures.text in
    let word = c.spell_word.ensures.text in
    record { text = spelled_as (ap statuses_text (sym c.in-One.is)) (then text word); most = omega (arith, text.place, word.place) }

pub returns-in-Two : goal.returns-in-Two
returns-in-Two c =
    let text = c.spell_text-begun-in-Two.ensures.text in
    let words = c.spell_pair.ensures in
    record { text = spelled_as (ap statuses_text (sym c.in-Two.is)) (then text words.text); most = omega (arith, text.place, words.most) }
