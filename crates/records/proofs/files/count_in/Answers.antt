-- The loop's invariant: of the bytes that are left, with the records so far, the walk is the whole. Assumes nothing.
use Rattle.std.proofs.Common.{ap, ◌∙◌}
use Rattle.std.proofs.lemmas.Result.{err_from_is_err_and}
use Rattle.std.specs.Slice.Iter.{chunks_rest, chunks_size}
use Rattle.records.proofs.Walks.{chunk_of, start, stop, refused, next}
use Rattle.records.proofs.files.count_in.Goals as goal

pub loop-record-init : goal.loop-record-init
loop-record-init c =
    let same = c.into_iter-record-iterator.ensures.into_iter_gives in
    (ap chunks_size same ∙ c.chunks-record-items.ensures.size, start _ _ _ (ap chunks_rest same ∙ c.chunks-record-items.ensures.rest))

pub loop-record-preserved : goal.loop-record-preserved
loop-record-preserved c =
    let before = c.loop-record.invariant in
    let steps = c.in-Some.ensures.steps in
    (steps.0 ∙ before.0, next _ _ _ _ _ _ _ _ before.1 (chunk_of (chunks_rest c.loop-record.record-iterator) c.in-Some.record.now (chunks_rest c.next.new.self) _ before.0 steps.1) c.read_record.ensures.read _ c.in_ok-read_record.was)

pub returns-in_err-read_record : goal.returns-in_err-read_record
returns-in_err-read_record c =
    let p = err_from_is_err_and c.from_residual.result c.from_residual.ensures.1 in
    let before = c.loop-record.invariant in
    rw (p.1, p.2)
    (record { counted = refused _ _ _ _ _ _ _ _ before.1 (chunk_of (chunks_rest c.loop-record.record-iterator) c.in-Some.record.now (chunks_rest c.next.new.self) _ before.0 c.in-Some.ensures.steps.1) c.read_record.ensures.read _ c.in_err-read_record.was })

pub returns : goal.returns
returns c = record { counted = stop _ _ _ _ _ c.loop-record.invariant.1 c.in-None.ensures.steps.1.0 }
