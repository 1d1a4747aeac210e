-- The number so far, read on behind it, is the whole text's. Assumes nothing.
use Prim.Native.Nat.{◌^◌, ◌<◌}
use mathlib.Core.Path.{◌≡◌}
use lib.ListN.{drop}
use Rattle.lines.specs.Numbers.{number_after}
use Rattle.lines.proofs.numbers.read_decimal.Given as goal

abbrev pub invariant-loop-byte : goal.invariant-loop-byte
invariant-loop-byte l = (l.value < 2 ^ 64) × (number_after l.value (drop l.byte-index l.text) ≡ number_after 0 l.text)
