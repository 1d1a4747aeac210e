-- All, or the address. Assumes nothing.
use native.Mathlib.Omega.{arith}
use mathlib.Core.Path.{sym, ◌∙◌}
use Rattle.lines.proofs.Spellings.{spelled_as}
use Rattle.lines.specs.Spells.{text_of}
use Rattle.texts.proofs.Choices.{address_all, address_one, number_as}
use Rattle.texts.proofs.entries.spell_address.Goals as goal

pub returns-then-is_broadcast : goal.returns-then-is_broadcast
returns-then-is_broadcast c =
    let spelled = c.spell_text.ensures.text in
    record { text = spelled_as (address_all _ (sym c.is_broadcast.ensures.answer ∙ c.if-is_broadcast.true)) spelled; most = omega (arith, spelled.place) }

pub returns : goal.returns
returns c =
    let spelled = c.spell_number.ensures in
    record { text = spelled_as (address_one _ (sym c.is_broadcast.ensures.answer ∙ c.if-is_broadcast.false)) (number_as (text_of "rt") c.address.ensures.field spelled.text); most = spelled.most }
