-- The test chooses the letter. Assumes nothing.
use native.Mathlib.Omega.{arith}
use Rattle.lines.proofs.Spellings.{spelled_as}
use Rattle.texts.proofs.Choices.{bus_a, bus_b}
use Rattle.texts.proofs.entries.spell_bus.Goals as goal

pub returns-then-bus-eq-BUS_A : goal.returns-then-bus-eq-BUS_A
returns-then-bus-eq-BUS_A c =
    let spelled = c.spell_text.ensures.text in
    record { text = spelled_as (bus_a _ c.if-bus-eq-BUS_A.true) spelled; most = omega (arith, spelled.place) }

pub returns : goal.returns
returns c =
    let spelled = c.spell_text-2.ensures.text in
    record { text = spelled_as (bus_b _ c.if-bus-eq-BUS_A.false) spelled; most = omega (arith, spelled.place) }
