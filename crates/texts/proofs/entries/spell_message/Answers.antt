-- The parts of a message, one behind the other. Assumes nothing.
use native.Mathlib.Omega.{arith}
use Rattle.lines.proofs.Spellings.{then}
use Rattle.texts.proofs.entries.spell_message.Goals as goal

pub returns : goal.returns
returns c =
    let begin = c.spell_begin-begun.ensures in
    let named = c.spell_text-named.ensures.text in
    let commands = c.spell_commands-commanded.ensures in
    let statuses = c.spell_statuses-answered.ensures in
    let counts = c.spell_counts-counted.ensures in
    let gap = c.spell_gap-spaced.ensures in
    let outcome = c.spell_outcome.ensures in
    record { text = then begin.text (then named (then commands.text (then statuses.text (then counts.text (then gap.text outcome.text))))); most = omega (arith, begin.most, named.place, commands.most, statuses.most, counts.most, gap.most, outcome.most) }
