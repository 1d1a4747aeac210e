-- The number, then the name. Assumes nothing.
use native.Mathlib.Omega.{arith}
use mathlib.Core.Path.{◌≡◌}
use Rattle.std.proofs.Common.{rules}
use Rattle.verdict.specs.Numbers.{number_of}
use Rattle.lines.proofs.Spellings.{then}
use Rattle.lines.specs.Spells.{text_of}
use Rattle.texts.proofs.Choices.{number_as}
use Rattle.texts.proofs.entries.spell_verdict.Goals as goal

pub returns : goal.returns
returns c =
    let number = c.spell_number-numbered.ensures in
    let name = c.spell_name.ensures in
    let same : c.from-number.result ≡ number_of c.args.verdict = search rules in
    record { text = then (number_as (text_of " verdict=") same number.text) name.text; most = omega (arith, number.most, name.most) }
