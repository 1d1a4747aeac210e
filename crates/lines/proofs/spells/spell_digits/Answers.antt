-- Before each turn the last digits stand behind the place, and the others are left; one may be left in the end. Assumes nothing.
use borrow.Author.Rules.{rules}
use Rattle.lines.proofs.Spellings.{filling_start, filling_low, filling_two, filled_one, filled_even}
use Rattle.lines.proofs.spells.spell_digits.Goals as goal

pub loop-i-init : goal.loop-i-init
loop-i-init c = search (filling_start, rules)

pub bounds-block-at-in-loop-i : goal.bounds-block-at-in-loop-i
bounds-block-at-in-loop-i c = search (filling_low, rules)

pub loop-i-preserved : goal.loop-i-preserved
loop-i-preserved c = search (filling_two, rules)

pub returns-then-i-eq1 : goal.returns-then-i-eq1
returns-then-i-eq1 c = record { block = search (filled_one, rules) }

pub returns-else-i-eq1 : goal.returns-else-i-eq1
returns-else-i-eq1 c = record { block = search (filled_even, rules) }
