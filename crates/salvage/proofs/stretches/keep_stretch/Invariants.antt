-- The loop's invariant: what is left of the bytes, with the bytes so far, is what the whole gives. Assumes nothing.
use Rattle.std.proofs.Common.{◌≡◌, drop}
use Rattle.std.specs.Slice.Iter.{chunks_exact_rest, chunks_exact_size}
use Rattle.salvage.proofs.Loops.{Keeping}
use Rattle.salvage.proofs.stretches.keep_stretch.Given as goal

abbrev pub invariant-loop-record : goal.invariant-loop-record
invariant-loop-record l = record {
  size : chunks_exact_size l.record-iterator ≡ 16;
  left : chunks_exact_rest l.record-iterator ≡ drop l.at l.bytes;
  keeping : Keeping l.bytes l.initial.kept l.kept l.at;
}
