-- One line, or one for each frame. Assumes nothing.
use native.Mathlib.Omega.{arith}
use mathlib.Core.Path.{sym, ◌∙◌}
use Rattle.lines.proofs.Spellings.{spelled_as}
use Rattle.texts.proofs.Lines.{capacities_even, capacities_each}
use Rattle.texts.proofs.writings.spell_capacities.Goals as goal

pub returns-then-is_even : goal.returns-then-is_even
returns-then-is_even c =
    let spelled = c.spell_capacity.ensures in
    record { text = spelled_as (capacities_even _ (sym c.is_even.ensures.answer ∙ c.if-is_even.true)) spelled.text; most = omega (arith, spelled.most) }

pub returns : goal.returns
returns c =
    let spelled = c.spell_each_capacity.ensures in
    record { text = spelled_as (capacities_each _ (sym c.is_even.ensures.answer ∙ c.if-is_even.false)) spelled.text; most = spelled.most }
