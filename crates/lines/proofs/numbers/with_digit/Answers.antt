-- Each answer has the law of the tests before it. Assumes nothing.
use Rattle.std.proofs.Common.{rules}
use Rattle.lines.proofs.Readings.{none_other, none_full, one_more}
use Rattle.lines.proofs.numbers.with_digit.Goals as goal

pub returns-then-not-is_ascii_digit : goal.returns-then-not-is_ascii_digit
returns-then-not-is_ascii_digit c = record { number = search (none_other, rules) }

pub returns-in_err-checked_mul : goal.returns-in_err-checked_mul
returns-in_err-checked_mul c = record { number = search (none_full, rules) }

pub returns : goal.returns
returns c = record { number = search (one_more, rules) }
