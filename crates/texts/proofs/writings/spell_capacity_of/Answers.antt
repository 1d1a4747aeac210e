-- The line of one frame. Assumes nothing.
use native.Mathlib.Omega.{arith}
use Rattle.lines.proofs.Spellings.{then, spelled_as}
use Rattle.texts.proofs.Lines.{frame_line}
use Rattle.texts.proofs.writings.spell_capacity_of.Goals as goal

pub returns : goal.returns
returns c =
    let frame = c.spell_number-placed.ensures in
    let ticks = c.spell_number-told.ensures in
    let end = c.spell_byte.ensures.text in
    record { text = spelled_as (frame_line _ _) (then frame.text (then ticks.text end)); most = omega (arith, frame.most, ticks.most, end.place) }
