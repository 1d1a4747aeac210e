-- The loop's invariant: what is left of the bytes, with the bytes so far, is what the whole gives. Assumes nothing.
use Rattle.std.proofs.Common.{◌≡◌, drop}
use Rattle.std.specs.Slice.Iter.{windows_rest, windows_size}
use Rattle.salvage.proofs.Loops.{Skipping}
use Rattle.salvage.proofs.stretches.skip_stretch.Given as goal

abbrev pub invariant-loop-place : goal.invariant-loop-place
invariant-loop-place l = record {
  size : windows_size l.place-iterator ≡ 16;
  left : windows_rest l.place-iterator ≡ drop l.at l.bytes;
  skipping : Skipping l.bytes l.last l.at l.strays;
}
