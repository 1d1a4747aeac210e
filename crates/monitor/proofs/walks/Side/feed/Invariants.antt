-- The loop's invariant: what is left of the bytes comes to what the whole gives. Assumes nothing.
use Rattle.std.proofs.Common.{◌≡◌}
use Rattle.std.specs.Slice.Iter.{chunks_exact_rest, chunks_exact_size}
use Rattle.records.specs.Records.{record_bytes}
use Rattle.monitor.proofs.Feeding.{Feeding}
use Rattle.monitor.proofs.walks.Side.feed.Given as goal

abbrev pub invariant-loop-record : goal.invariant-loop-record
invariant-loop-record l = record {
  size : chunks_exact_size l.record-iterator ≡ record_bytes;
  left : Feeding l.bytes l.fn.self l.side (chunks_exact_rest l.record-iterator) l.taken;
}
