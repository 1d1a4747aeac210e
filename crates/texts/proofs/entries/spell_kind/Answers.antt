-- A mode code, or a subaddress and a count. Assumes nothing.
use native.Mathlib.Omega.{arith}
use mathlib.Core.Path.{sym, ◌∙◌}
use Rattle.lines.proofs.Spellings.{then, spelled_as}
use Rattle.lines.specs.Spells.{text_of}
use Rattle.texts.proofs.Choices.{kind_mode, kind_words, number_as}
use Rattle.texts.proofs.entries.spell_kind.Goals as goal

pub returns-then-is_mode : goal.returns-then-is_mode
returns-then-is_mode c =
    let spelled = c.spell_number.ensures in
    record { text = spelled_as (kind_mode _ (sym c.is_mode.ensures.answer ∙ c.if-is_mode.true)) (number_as (text_of ",mode,code") c.count.ensures.field spelled.text); most = omega (arith, spelled.most) }

pub returns : goal.returns
returns c =
    let place = c.spell_number-placed.ensures in
    let count = c.spell_number-2.ensures in
    record {
      text = spelled_as
          (kind_words _ (sym c.is_mode.ensures.answer ∙ c.if-is_mode.false))
          (then (number_as (text_of ",sa") c.subaddress.ensures.field place.text) (number_as (text_of ",count") c.words.ensures.count count.text));
      most = omega (arith, place.most, count.most);
    }
