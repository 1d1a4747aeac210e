-- The test chooses the word. Assumes nothing.
use native.Mathlib.Omega.{arith}
use mathlib.Core.Path.{sym, ◌∙◌}
use Rattle.lines.proofs.Spellings.{spelled_as}
use Rattle.texts.proofs.Choices.{direction_transmit, direction_receive}
use Rattle.texts.proofs.entries.spell_direction.Goals as goal

pub returns-then-is_transmit : goal.returns-then-is_transmit
returns-then-is_transmit c =
    let spelled = c.spell_text.ensures.text in
    record { text = spelled_as (direction_transmit _ (sym c.is_transmit.ensures.answer ∙ c.if-is_transmit.true)) spelled; most = omega (arith, spelled.place) }

pub returns : goal.returns
returns c =
    let spelled = c.spell_text-2.ensures.text in
    record { text = spelled_as (direction_receive _ (sym c.is_transmit.ensures.answer ∙ c.if-is_transmit.false)) spelled; most = omega (arith, spelled.place) }
