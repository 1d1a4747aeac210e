-- Nothing, or two numbers and the line end. Assumes nothing.
use Rattle.lines.proofs.Spellings.{then, spelled_as}
use Rattle.texts.proofs.Choices.{run_none, run_some}
use Rattle.texts.proofs.closings.spell_run.Goals as goal

pub returns-then-run-eq0 : goal.returns-then-run-eq0
returns-then-run-eq0 c = record { text = spelled_as (run_none _ c.if-run-eq0.true) c.spell_text.ensures.text }

pub returns : goal.returns
returns c =
    record {
      text = let place = c.spell_number-placed.ensures in
          let length = c.spell_number-told.ensures in
          spelled_as (run_some _ c.if-run-eq0.false) (then (then place.text length.text) c.spell_byte.ensures.text);
    }
