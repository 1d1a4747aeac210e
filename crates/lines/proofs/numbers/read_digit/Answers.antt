-- What std says of a byte is what the definition says. Assumes nothing.
use Rattle.std.proofs.Common.{rules}
use Rattle.lines.proofs.Hexadecimals.{digit_is}
use Rattle.lines.proofs.numbers.read_digit.Goals as goal

pub returns-in_err-digit : goal.returns-in_err-digit
returns-in_err-digit c = search (digit_is, rules)

pub returns : goal.returns
returns c = record { value = search (digit_is, rules) }
