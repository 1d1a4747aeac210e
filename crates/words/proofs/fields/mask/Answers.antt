-- One bit of that weight is below 2 ^ 16, so the shift loses nothing. Assumes nothing.
use Prim.Native.Nat.{ℕ, ◌^◌, ◌<◌}
use native.Mathlib.Omega.{arith}
use lib.Pow.{pow_pos, pow-lt}
use Rattle.words.proofs.fields.mask.Goals as goal

below : (k : ℕ) → k < 16 → 2 ^ k < 2 ^ 16
below k h = pow-lt h

pub overflow_sub-result : goal.overflow_sub-result
overflow_sub-result c = omega (arith, pow_pos c.args.width, below c.args.width c.requires)

pub returns : goal.returns
returns c = record { mask = omega (arith, below c.args.width c.requires) }
