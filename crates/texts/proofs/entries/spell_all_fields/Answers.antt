-- The fields of one word, or of two. Assumes nothing.
use native.Mathlib.Omega.{arith}
use mathlib.Core.Path.{sym, ap}
use Rattle.lines.proofs.Spellings.{then, spelled_as}
use Rattle.texts.specs.Entries.{all_fields_text}
use Rattle.texts.proofs.entries.spell_all_fields.Goals as goal

pub returns-in-One : goal.returns-in-One
returns-in-One c =
    let spelled = c.spell_fields.ensures in
    record { text = spelled_as (ap all_fields_text (sym c.in-One.is)) spelled.text; most = omega (arith, spelled.most) }

pub returns-in-Two : goal.returns-in-Two
returns-in-Two c =
    let first = c.spell_fields-begun.ensures in
    let second = c.spell_fields-in-Two.ensures in
    record { text = spelled_as (ap all_fields_text (sym c.in-Two.is)) (then first.text second.text); most = omega (arith, first.most, second.most) }
