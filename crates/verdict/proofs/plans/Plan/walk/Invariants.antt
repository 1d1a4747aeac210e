-- The loop's invariant: what is left, with the fact found and the number looked at so far, is what the whole comes to. Assumes nothing.
use mathlib.Core.Path.{◌≡◌}
use Rattle.std.specs.Slice.Iter.{chunks_rest, chunks_size}
use Rattle.records.specs.Records.{record_bytes}
use Rattle.verdict.proofs.Walks.{Left}
use Rattle.verdict.proofs.plans.Plan.walk.Given as goal

abbrev pub invariant-loop-bytes : goal.invariant-loop-bytes
invariant-loop-bytes l = record {
  size : chunks_size l.bytes-iterator ≡ record_bytes;
  left : Left l.self l.records (chunks_rest l.bytes-iterator) l.looked l.last.0 l.found;
}
