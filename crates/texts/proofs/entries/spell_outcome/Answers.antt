-- None, or the verdict. Assumes nothing.
use native.Mathlib.Omega.{arith}
use mathlib.Core.Path.{sym, ap}
use Rattle.lines.proofs.Spellings.{spelled_as}
use Rattle.texts.specs.Entries.{outcome_text}
use Rattle.texts.proofs.entries.spell_outcome.Goals as goal

pub returns-in-None : goal.returns-in-None
returns-in-None c =
    let spelled = c.spell_text.ensures.text in
    record { text = spelled_as (ap outcome_text (sym c.in-None.is)) spelled; most = omega (arith, spelled.place) }

pub returns-in-Some : goal.returns-in-Some
returns-in-Some c =
    let spelled = c.spell_verdict.ensures in
    record { text = spelled_as (ap outcome_text (sym c.in-Some.is)) spelled.text; most = spelled.most }
