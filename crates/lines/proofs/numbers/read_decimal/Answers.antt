-- Each answer has the law of the tests before it; what one digit more gives says whether it goes on. Assumes nothing.
use Rattle.std.proofs.Common.{rules}
use Rattle.lines.proofs.Readings.{none_empty, none_long, turned, stopped, ended}
use Rattle.lines.proofs.numbers.read_decimal.Goals as goal
use Rattle.lines.proofs.numbers.read_decimal.Goals.{then-is_empty-via-then-is_empty, then-is_empty-via-else-is_empty+then-text-gt-DIGITS_MOST}

pub returns-then-is_empty : goal.returns-then-is_empty
returns-then-is_empty c =
    elim c.then-is_empty.branch [
      | then-is_empty-via-then-is_empty w ↦ record { number = search (none_empty, rules) }
      | then-is_empty-via-else-is_empty+then-text-gt-DIGITS_MOST w ↦ record { number = search (none_long, rules) }
    ]

pub returns-in_err-value : goal.returns-in_err-value
returns-in_err-value c = record { number = search (stopped, rules) }

pub loop-byte-preserved : goal.loop-byte-preserved
loop-byte-preserved c = search (turned, rules)

pub returns : goal.returns
returns c = record { number = search (ended, rules) }
