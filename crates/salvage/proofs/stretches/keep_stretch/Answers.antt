-- The loop's invariant: what is left of the bytes, with the bytes so far, is what the whole gives. Assumes nothing.
use Rattle.std.proofs.Common.{◌≤◌, drop, take, length, ap, ◌∙◌, drop-drop, arith}
use Rattle.std.specs.Slice.Iter.{chunks_exact_rest, chunks_exact_size}
use Rattle.salvage.specs.Machine.{place_of}
use Rattle.salvage.proofs.Loops.{chunk_of, whole_size, keeping_start, keeping_stop, keeping_next, keeping_short, keeping_fits}
use Rattle.salvage.proofs.stretches.keep_stretch.Goals as goal

pub loop-record-init : goal.loop-record-init
loop-record-init c =
    let same = c.into_iter-record-iterator.ensures.into_iter_gives in
    record {
      size = ap chunks_exact_size same ∙ c.chunks_exact-record-items.ensures.size;
      left = ap chunks_exact_rest same ∙ c.chunks_exact-record-items.ensures.rest;
      keeping = keeping_start _ _;
    }

pub returns-in_default : goal.returns-in_default
returns-in_default c =
    let before = c.loop-record.invariant in
    let steps = c.in-Some.ensures.steps in
    let chunk = chunk_of _ _ _ _ before.size steps.1.0 steps.1.1 in
    let long : 16 ≤ length (drop c.loop-record.at c.args.bytes.now) = omega (arith, chunk.long, ap length before.left) in
    record { stretch = keeping_stop _ _ _ _ before.keeping long _ (c.in_default.ensures.place ∙ ap (place_of c.loop-record.kept) (chunk.front ∙ ap (take 16) before.left)) }

pub overflow_add-at : goal.overflow_add-at
overflow_add-at c =
    let before = c.loop-record.invariant in
    let steps = c.in-Some.ensures.steps in
    let chunk = chunk_of _ _ _ _ before.size steps.1.0 steps.1.1 in
    let long : 16 ≤ length (drop c.loop-record.at c.args.bytes.now) = omega (arith, chunk.long, ap length before.left) in
    omega (arith, keeping_fits _ _ _ _ before.keeping long)

pub loop-record-preserved : goal.loop-record-preserved
loop-record-preserved c =
    let before = c.loop-record.invariant in
    let steps = c.in-Some.ensures.steps in
    let chunk = chunk_of _ _ _ _ before.size steps.1.0 steps.1.1 in
    let long : 16 ≤ length (drop c.loop-record.at c.args.bytes.now) = omega (arith, chunk.long, ap length before.left) in
    record {
      size = steps.0 ∙ before.size;
      left = chunk.behind ∙ ap (drop 16) before.left ∙ drop-drop 16 c.loop-record.at c.args.bytes.now;
      keeping = keeping_next _ _ _ _ before.keeping long _ (c.in-Ok.ensures.place ∙ ap (place_of c.loop-record.kept) (chunk.front ∙ ap (take 16) before.left));
    }

pub returns : goal.returns
returns c =
    let before = c.loop-record.invariant in
    let short = whole_size _ _ before.size c.in-None.ensures.steps.1.0 in
    record { stretch = keeping_short _ _ _ _ before.keeping (omega (arith, short, ap length before.left)) }
