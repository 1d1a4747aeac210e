-- Line behind line, each in its place, up to the last message. Assumes nothing.
use mathlib.Core.Logic.{inl, inr}
use Rattle.texts.proofs.Lines.{messages_start, messages_more, messages_end}
use native.Mathlib.Omega.{arith}
use Rattle.lines.proofs.Spellings.{then}
use Rattle.texts.proofs.Choices.{spelled_none}
use Rattle.texts.proofs.writings.spell_messages.Goals as goal

pub loop-i-init : goal.loop-i-init
loop-i-init c = (messages_start _ _ _ _ _ _ _ (spelled_none c.spell_text-place.ensures.text), omega arith, omega arith)

pub returns-then-schedule-i : goal.returns-then-schedule-i
returns-then-schedule-i c =
    let loop = c.loop-i in
    let begin = c.spell_text-place.ensures.text in
    let rest = messages_end _ _ _ _ _ _ _ _ loop.invariant.1 loop.invariant.2 (inr c.if-schedule-i.true) loop.invariant.0 in
    record { text = then begin rest.0; most = omega (arith, begin.place, rest.1) }

pub loop-i-preserved : goal.loop-i-preserved
loop-i-preserved c =
    let loop = c.loop-i in
    (messages_more _ _ _ _ _ _ _ _ _ _ _ loop.invariant.1 loop.invariant.2 c.loop-i-test.true c.if-schedule-i.false loop.invariant.0 (c.spell_placed-place.ensures.text, c.spell_placed-place.ensures.most), loop.invariant.1, loop.invariant.2)

pub returns : goal.returns
returns c =
    let loop = c.loop-i in
    let begin = c.spell_text-place.ensures.text in
    let rest = messages_end _ _ _ _ _ _ _ _ loop.invariant.1 loop.invariant.2 (inl c.loop-i-test.false) loop.invariant.0 in
    record { text = then begin rest.0; most = omega (arith, begin.place, rest.1) }
