-- The processor counts all the ones of the word, the definition those among 16 bits: for a word of 16 bits the same. Assumes nothing.
use Prim.Native.Nat.{◌+◌}
use native.Mathlib.Omega.{arith}
use lib.Bits.{and_mask}
use lib.Count.{ones, ones-le}
use Rattle.words.specs.Words.{is_odd}
use Rattle.words.proofs.Counts.{ones_within}
use Rattle.words.proofs.parities.is_odd.Goals as goal

pub overflow_add-ones : goal.overflow_add-ones
overflow_add-ones c = omega (arith, ones-le 16 c.args.word c.ranges.word.fits)

pub returns : goal.returns
unfolding is_odd
returns c = record { answer = rw (and_mask (ones c.args.word + c.args.parity) 1, ones_within 16 c.args.word c.ranges.word.fits) }
