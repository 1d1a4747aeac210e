-- Line behind line, each in its place. Assumes nothing.
use Rattle.texts.proofs.Lines.{capacities_start, capacities_more, capacities_end}
use native.Mathlib.Omega.{arith}
use Rattle.lines.proofs.Spellings.{then}
use Rattle.texts.proofs.Choices.{spelled_none}
use borrow.Author.Rules.{rules}
use Rattle.texts.proofs.writings.spell_each_capacity.Goals as goal

pub loop-frame-init : goal.loop-frame-init
loop-frame-init c = (capacities_start _ _ _ _ _ (spelled_none c.spell_text-place.ensures.text), search rules)

pub loop-frame-preserved : goal.loop-frame-preserved
loop-frame-preserved c =
    let loop = c.loop-frame in
    (capacities_more _ _ _ _ _ _ _ _ loop.invariant.1 c.loop-frame-test.true loop.invariant.0 (c.spell_capacity_of-place.ensures.text, c.spell_capacity_of-place.ensures.most), loop.invariant.1)

pub returns : goal.returns
returns c =
    let loop = c.loop-frame in
    let begin = c.spell_text-place.ensures.text in
    let rest = capacities_end _ _ _ _ _ _ loop.invariant.1 c.loop-frame-test.false loop.invariant.0 in
    record { text = then begin rest.0; most = omega (arith, begin.place, rest.1) }
