-- Laws of moments and ticks. Assumes nothing.
use mathlib.Core.Path.{◌≡◌}
use mathlib.Core.Logic.{dite}
use Prim.Native.Nat.{ℕ, ◌+◌, ◌-◌, ◌^◌, ◌≤◌, ◌<◌}
use native.Mathlib.Nat.{lt_of_not-le}
use native.Mathlib.Decide.{dec_le}
use native.Mathlib.Omega.{arith}
use borrow.Author.Tests.{lt-ltb, le-ltb}
use Rattle.words.specs.Words.{plus_of}

-- a sum that 64 bits hold is the sum
pub plus_fits : (moment ticks : ℕ) → moment + ticks < 2 ^ 64 → plus_of moment ticks ≡ moment + ticks
unfolding plus_of
plus_fits moment ticks h = rw (lt-ltb (moment + ticks) (2 ^ 64) h)

-- a sum that they do not hold is their last number
pub plus_stays : (moment ticks : ℕ) → 2 ^ 64 ≤ moment + ticks → plus_of moment ticks ≡ 2 ^ 64 - 1
unfolding plus_of
plus_stays moment ticks h = rw (le-ltb (moment + ticks) (2 ^ 64) h)

-- the distance from a sum is the plain one, though the sum may have stayed: no moment is past it
pub since_plus : (before ticks after : ℕ) → after < 2 ^ 64 → after - plus_of before ticks ≡ after - (before + ticks)
since_plus before ticks after h =
    dite (dec_le (2 ^ 64) (before + ticks))
    (λ past. omega (arith, plus_stays before ticks past))
    (λ fits. omega (arith, plus_fits before ticks (lt_of_not-le fits)))
