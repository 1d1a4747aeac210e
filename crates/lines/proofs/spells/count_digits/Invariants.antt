-- Before each turn the power is that of the count, and one digit fewer does not hold the number. Assumes nothing.
use Rattle.lines.proofs.Spellings.{Counting}
use Rattle.lines.proofs.spells.count_digits.Given as goal

abbrev pub invariant-loop-count : goal.invariant-loop-count
invariant-loop-count l = Counting l.number l.count l.power
