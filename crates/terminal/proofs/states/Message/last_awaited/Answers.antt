-- By how many words are awaited. Assumes nothing.
use native.Mathlib.Omega.{arith}
use Rattle.std.proofs.lemmas.Bool.{and_parts}
use lib.Dec.{leb}
use borrow.Author.Tests.{leb-true}
use Rattle.terminal.specs.Works.{last_awaited}
use Rattle.terminal.proofs.states.Message.last_awaited.Goals as goal

pub overflow_sub-result : goal.overflow_sub-result
overflow_sub-result c =
    let n = c.awaited-count.result in
    omega (arith, leb-true 1 n (and_parts (leb 1 n) (leb n 32) c.if-count.true).0)

pub bounds-self-count : goal.bounds-self-count
bounds-self-count c =
    let n = c.awaited-count.result in
    let both = and_parts (leb 1 n) (leb n 32) c.if-count.true in
    omega (arith, leb-true 1 n both.0, leb-true n 32 both.1)

pub returns-then-count : goal.returns-then-count
unfolding last_awaited
returns-then-count c = record { word = rw (← c.awaited-count.ensures.count, c.if-count.true) }

pub returns-else-count : goal.returns-else-count
unfolding last_awaited
returns-else-count c = record { word = rw (← c.awaited-count.ensures.count, c.if-count.false) }
