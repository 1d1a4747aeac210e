-- The loop's invariant: the message found so far is one of them. Assumes nothing.
use Rattle.std.specs.Prelude.{◌<◌, length, IfSome}
use Rattle.schedule.proofs.searches.Search.next_among.Given as goal

abbrev pub invariant-loop-i : goal.invariant-loop-i
invariant-loop-i l = IfSome l.next (λ i. i < length l.self.messages.now)
