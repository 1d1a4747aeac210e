-- The sum is the digit of the definition, below ten and above. Assumes nothing.
use borrow.Author.Rules.{rules}
use Rattle.lines.proofs.Texts.{digit_low, digit_high}
use Rattle.lines.proofs.spells.digit.Goals as goal

pub returns-then-low-lt10 : goal.returns-then-low-lt10
returns-then-low-lt10 c = record { digit = search (digit_low, rules) }

pub returns-else-low-lt10 : goal.returns-else-low-lt10
returns-else-low-lt10 c = record { digit = search (digit_high, rules) }
