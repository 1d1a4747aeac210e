-- With what is added, or without. Assumes nothing.
use native.Mathlib.Omega.{arith}
use Rattle.lines.proofs.Spellings.{then, spelled_as}
use Rattle.texts.proofs.Choices.{added_text_lem, added_none, spelled_none}
use Rattle.texts.proofs.puts.spell_message_with.Goals as goal

pub returns-then-added : goal.returns-then-added
returns-then-added c =
    let told = c.spell_message-told.ensures in
    let more = c.spell_all_fields.ensures in
    record { text = then told.text (spelled_as (added_text_lem _ _ c.if-added.true) more.text); most = omega (arith, told.most, more.most) }

pub returns : goal.returns
returns c =
    let told = c.spell_message-told.ensures in
    record { text = then told.text (spelled_as (added_none _ _ c.if-added.false) (spelled_none told.text)); most = omega (arith, told.most) }
