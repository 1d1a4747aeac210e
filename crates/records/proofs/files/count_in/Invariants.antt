-- The loop's invariant: of the bytes that are left, with the records so far, the walk is the whole. Assumes nothing.
use Rattle.std.proofs.Common.{◌≡◌, length}
use Rattle.std.specs.Slice.Iter.{chunks_rest, chunks_size}
use Rattle.records.specs.Files.{walk_from, counts}
use Rattle.records.proofs.Walks.{Left}
use Rattle.records.proofs.files.count_in.Given as goal

abbrev pub invariant-loop-record : goal.invariant-loop-record
invariant-loop-record l =
    (chunks_size l.record-iterator ≡ 16)
    × Left l.last_bus l.bytes (counts (walk_from l.last_bus (length l.bytes) l.bytes)) (chunks_rest l.record-iterator) l.records
