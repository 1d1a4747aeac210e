-- The number so far, read on behind it, is the whole text's, and below 16 to the digits so far. Assumes nothing.
use Prim.Native.Nat.{◌^◌, ◌<◌}
use mathlib.Core.Path.{◌≡◌}
use lib.ListN.{drop}
use Rattle.lines.specs.Numbers.{hexadecimal_after}
use Rattle.lines.proofs.numbers.read_hexadecimal.Given as goal

abbrev pub invariant-loop-byte : goal.invariant-loop-byte
invariant-loop-byte l = (l.value < 16 ^ l.byte-index) × (hexadecimal_after l.value (drop l.byte-index l.text) ≡ hexadecimal_after 0 l.text)
