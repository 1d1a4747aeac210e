-- One word, or two. Assumes nothing.
use native.Mathlib.Omega.{arith}
use mathlib.Core.Path.{sym, ap}
use Rattle.lines.proofs.Spellings.{spelled_as}
use Rattle.texts.specs.Entries.{commands_text}
use Rattle.texts.proofs.entries.spell_commands.Goals as goal

pub returns-in-One : goal.returns-in-One
returns-in-One c =
    let spelled = c.spell_word.ensures.text in
    record { text = spelled_as (ap commands_text (sym c.in-One.is)) spelled; most = omega (arith, spelled.place) }

pub returns-in-Two : goal.returns-in-Two
returns-in-Two c =
    let spelled = c.spell_pair.ensures in
    record { text = spelled_as (ap commands_text (sym c.in-Two.is)) spelled.text; most = spelled.most }
