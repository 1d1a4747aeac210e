-- Each part lies below the place where the part before it ends, so `|` adds them. Assumes nothing.
use mathlib.Core.Path.{◌≡◌}
use Prim.Native.Nat.{◌+◌}
use native.Mathlib.Omega.{arith}
use lib.Bits.{bit_or}
use Rattle.words.specs.Words.{placed_of}
use Rattle.words.proofs.Bits.{or_low}
use Rattle.words.proofs.commands.CommandWord.build.Goals as goal

pub returns : goal.returns
returns c =
    record {
      word = let parts = c.args in
          let a = placed_of 11 5 parts.address in
          let t = placed_of 10 1 parts.transmit in
          let s = placed_of 5 5 parts.subaddress in
          let n = placed_of 0 5 parts.count in
          let upto_t : bit_or a t ≡ a + t = or_low 11 a t (omega arith) (omega arith) in
          let upto_s : bit_or (a + t) s ≡ a + t + s = or_low 10 (a + t) s (omega arith) (omega arith) in
          let upto_n : bit_or (a + t + s) n ≡ a + t + s + n = or_low 5 (a + t + s) n (omega arith) (omega arith) in
          rw (c.placed.ensures.word, c.placed-2.ensures.word, c.placed-3.ensures.word, c.placed-4.ensures.word, upto_t, upto_s, upto_n);
    }
