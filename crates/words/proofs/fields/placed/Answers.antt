-- The mask keeps the width, and the field ends within the 16 bits, so the shift loses nothing. Assumes nothing.
use Prim.Native.Nat.{◌%◌, ◌^◌}
use native.Mathlib.Nat.{mod-lt}
use native.Mathlib.Omega.{arith}
use lib.Bits.{and_mask}
use lib.Pow.{pow_pos, shl_exact}
use Rattle.words.proofs.fields.placed.Goals as goal

pub returns : goal.returns
returns c =
    record {
      word = let a = c.args in
          rw (c.mask.ensures.mask, and_mask a.value a.width)
          (shl_exact {a = a.value % 2 ^ a.width} a.width a.place 16 (mod-lt a.value (pow_pos a.width)) (omega arith));
    }
