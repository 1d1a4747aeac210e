-- `take` is safe and ends: each turn takes one byte or more of what is left. Assumes nothing.
use Rattle.std.proofs.Common.{length}
use Rattle.bussave.proofs.savings.Saving.take.Given as goal

abbrev pub invariant-loop-rest : goal.invariant-loop-rest
invariant-loop-rest l = Unit {0}

abbrev pub decreases-loop-rest : goal.decreases-loop-rest
decreases-loop-rest l = length l.rest
