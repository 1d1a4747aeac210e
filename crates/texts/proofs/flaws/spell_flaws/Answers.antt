-- The four, one behind the other, then the dash. Assumes nothing.
use native.Mathlib.Omega.{arith}
use Rattle.lines.proofs.Spellings.{then}
use Rattle.texts.specs.Entries.{flaws_text}
use Rattle.texts.proofs.flaws.spell_flaws.Goals as goal

pub returns : goal.returns
unfolding flaws_text
returns c =
    let begin = c.spell_text-begun.ensures.text in
    let first = c.spell_flaw-first.ensures in
    let second = c.spell_flaw-second.ensures in
    let third = c.spell_flaw-third.ensures in
    let fourth = c.spell_flaw-fourth.ensures in
    let none = c.spell_flaw.ensures in
    record { text = then begin (then first.text (then second.text (then third.text (then fourth.text none.text)))); most = omega (arith, begin.place, first.most, second.most, third.most, fourth.most, none.most) }
