-- Nothing, or the mark and the name. Assumes nothing.
use native.Mathlib.Omega.{arith}
use Rattle.lines.proofs.Spellings.{then, spelled_as}
use Rattle.texts.proofs.Choices.{flaw_none, flaw_some}
use Rattle.texts.proofs.flaws.spell_flaw.Goals as goal

pub returns-then-not-bad : goal.returns-then-not-bad
returns-then-not-bad c =
    let spelled = c.spell_text.ensures.text in
    record { text = spelled_as (flaw_none _ _ _ c.if-not-bad.true) spelled; most = omega (arith, spelled.place) }

pub returns : goal.returns
returns c =
    let marked = c.spell_byte-marked.ensures.text in
    let name = c.spell_text-2.ensures.text in
    record { text = spelled_as (flaw_some _ _ _ _ c.if-not-bad.false c.mark.ensures.byte) (then marked name); most = omega (arith, marked.place, name.place) }
