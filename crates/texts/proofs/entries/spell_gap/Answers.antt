-- No number, one, or one with a dash before it. Assumes nothing.
use native.Mathlib.Omega.{arith}
use mathlib.Core.Path.{◌≡◌, sym, ap}
use Rattle.std.proofs.Common.{Some, rules}
use Rattle.monitor.specs.declared.entries.Gap.TheVariants as gap
use Rattle.lines.proofs.Spellings.{spelled_as}
use Rattle.texts.specs.Entries.{gap_text}
use Rattle.texts.proofs.entries.spell_gap.Goals as goal

pub returns-in-None : goal.returns-in-None
returns-in-None c =
    let spelled = c.spell_text.ensures.text in
    record { text = spelled_as (ap gap_text (sym c.in-None.is)) spelled; most = omega (arith, spelled.place) }

pub returns-in-Some-Apart : goal.returns-in-Some-Apart
returns-in-Some-Apart c =
    let spelled = c.spell_number.ensures in
    let same : c.args.gap ≡ Some (gap.Apart c.in-Some-Apart.ticks) = search rules in
    record { text = spelled_as (ap gap_text (sym same)) spelled.text; most = omega (arith, spelled.most) }

pub returns-in-Some-Overlap : goal.returns-in-Some-Overlap
returns-in-Some-Overlap c =
    let spelled = c.spell_number-in-Some-Overlap.ensures in
    let same : c.args.gap ≡ Some (gap.Overlap c.in-Some-Overlap.ticks) = search rules in
    record { text = spelled_as (ap gap_text (sym same)) spelled.text; most = spelled.most }
