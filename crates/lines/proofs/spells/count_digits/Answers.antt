-- Before each turn the power is that of the count, and one digit fewer does not hold the number. Assumes nothing.
use borrow.Author.Rules.{rules}
use Rattle.lines.proofs.Spellings.{counting_start, counting_more, counted, counted_last, counted_most, power_room}
use Rattle.lines.proofs.spells.count_digits.Goals as goal

pub loop-count-init : goal.loop-count-init
loop-count-init c = counting_start _

pub returns-then-number-power : goal.returns-then-number-power
returns-then-number-power c = record { count = search (counted, rules); most = search (counted, rules) }

pub overflow_mul-power : goal.overflow_mul-power
overflow_mul-power c = search (power_room, rules)

pub loop-count-preserved : goal.loop-count-preserved
loop-count-preserved c = search (counting_more, rules)

pub returns-then-number-power-2 : goal.returns-then-number-power-2
returns-then-number-power-2 c =
    let counted = counted_last _ _ _ c.loop-count.invariant c.loop-count-test.false c.if-number-power-2.true in
    record { count = counted.0; most = counted.1 }

pub returns : goal.returns
returns c =
    let counted = counted_most _ _ _ c.loop-count.invariant c.loop-count-test.false c.if-number-power-2.false (search rules) in
    record { count = counted.0; most = counted.1 }
