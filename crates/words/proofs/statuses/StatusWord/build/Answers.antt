-- The flags lie below the address, so `|` adds them. Assumes nothing.
use native.Mathlib.Omega.{arith}
use Rattle.words.specs.Words.{placed_of, flags_of}
use Rattle.words.proofs.Bits.{or_low}
use Rattle.words.proofs.statuses.StatusWord.build.Goals as goal

pub returns : goal.returns
returns c =
    record {
      word = let a = c.args in
          rw (c.placed.ensures.word, c.flags.ensures.flags)
          (or_low 11 (placed_of 11 5 a.address) (flags_of a.flags) (omega arith) (omega arith));
    }
