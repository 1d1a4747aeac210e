-- The text of each ending. Assumes nothing.
use native.Mathlib.Omega.{arith}
use mathlib.Core.Path.{◌≡◌, sym, ap}
use Rattle.std.proofs.Common.{rules}
use Rattle.lines.specs.Spells.{text_of}
use Rattle.texts.proofs.Choices.{number_as}
use Rattle.lines.proofs.Spellings.{spelled_as}
use Rattle.texts.specs.Schedules.{closing_text}
use Rattle.texts.proofs.schedules.spell_closing.Goals as goal

pub returns-in-Accepted : goal.returns-in-Accepted
returns-in-Accepted c =
    let spelled = c.spell_text.ensures.text in
    record { text = spelled_as (ap closing_text (sym c.in-Accepted.is)) spelled; most = omega (arith, spelled.place) }

pub returns-in-RejectedFrame : goal.returns-in-RejectedFrame
returns-in-RejectedFrame c =
    let spelled = c.spell_number.ensures in
    record { text = spelled_as (ap closing_text (sym c.in-RejectedFrame.is)) spelled.text; most = omega (arith, spelled.most) }

pub returns-in-RejectedMessage : goal.returns-in-RejectedMessage
returns-in-RejectedMessage c =
    let spelled = c.spell_number-in-RejectedMessage.ensures in
    record { text = spelled_as (ap closing_text (sym c.in-RejectedMessage.is)) spelled.text; most = omega (arith, spelled.most) }

pub returns-in-Refused : goal.returns-in-Refused
returns-in-Refused c =
    let spelled = c.spell_number-in-Refused.ensures in
    let same : c.from.result ≡ c.in-Refused.number = search rules in
    record { text = spelled_as (ap closing_text (sym c.in-Refused.is)) (number_as (text_of "# refused ") same spelled.text); most = omega (arith, spelled.most) }

pub returns-in-NoSchedule : goal.returns-in-NoSchedule
returns-in-NoSchedule c =
    let spelled = c.spell_text-in-NoSchedule.ensures.text in
    record { text = spelled_as (ap closing_text (sym c.in-NoSchedule.is)) spelled; most = omega (arith, spelled.place) }

pub returns-in-BadLine : goal.returns-in-BadLine
returns-in-BadLine c =
    let spelled = c.spell_number-in-BadLine.ensures in
    record { text = spelled_as (ap closing_text (sym c.in-BadLine.is)) spelled.text; most = omega (arith, spelled.most) }
