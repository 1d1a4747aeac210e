-- A message, or a record outside any. Assumes nothing.
use native.Mathlib.Omega.{arith}
use mathlib.Core.Path.{sym, ap}
use Rattle.lines.proofs.Spellings.{spelled_as}
use Rattle.texts.specs.Entries.{entry_text}
use Rattle.texts.proofs.puts.spell_entry.Goals as goal

pub returns-in-Message : goal.returns-in-Message
returns-in-Message c =
    let spelled = c.spell_message_with.ensures in
    record { text = spelled_as (ap (entry_text _) (sym c.in-Message.is)) spelled.text; most = spelled.most }

pub returns-in-Single : goal.returns-in-Single
returns-in-Single c =
    let spelled = c.spell_single_with.ensures in
    record { text = spelled_as (ap (entry_text _) (sym c.in-Single.is)) spelled.text; most = omega (arith, spelled.most) }
