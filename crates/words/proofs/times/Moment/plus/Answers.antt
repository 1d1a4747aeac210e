-- The sum is taken where it fits. Assumes nothing.
use native.Mathlib.Omega.{arith}
use Rattle.std.proofs.lemmas.Bool.Decides.{nat_tests}
use Rattle.words.specs.Words.{plus_of}
use Rattle.words.proofs.times.Moment.plus.Goals as goal

pub returns : goal.returns
unfolding plus_of
returns c = record { later = grind (arith, nat_tests) }
