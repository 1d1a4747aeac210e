-- The test chooses the word. Assumes nothing.
use native.Mathlib.Omega.{arith}
use mathlib.Core.Path.{sym, ◌∙◌}
use Rattle.lines.proofs.Spellings.{spelled_as}
use Rattle.texts.proofs.Choices.{first_changed, first_kept}
use Rattle.texts.proofs.closings.spell_first.Goals as goal

pub returns-then-is_changed : goal.returns-then-is_changed
returns-then-is_changed c =
    let spelled = c.spell_text.ensures.text in
    record { text = spelled_as (first_changed _ (sym c.is_changed.ensures.answer ∙ c.if-is_changed.true)) spelled; most = omega (arith, spelled.place) }

pub returns : goal.returns
returns c =
    let spelled = c.spell_text-2.ensures.text in
    record { text = spelled_as (first_kept _ (sym c.is_changed.ensures.answer ∙ c.if-is_changed.false)) spelled; most = omega (arith, spelled.place) }
