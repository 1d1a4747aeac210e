-- The loop's invariant: what is left of the bytes comes to what the whole gives. Assumes nothing.
use Rattle.std.proofs.Common.{ap, sym, ◌∙◌}
use Rattle.std.specs.Slice.Iter.{chunks_exact_rest, chunks_exact_size}
use Rattle.monitor.proofs.Feeding.{feeding_start, feeding_short, feeding_over, feeding_next, whole_size}
use Rattle.monitor.proofs.walks.Side.feed.Goals as goal

pub loop-record-init : goal.loop-record-init
loop-record-init c =
    let same = c.into_iter-record-iterator.ensures.into_iter_gives in
    record {
      size = ap chunks_exact_size same ∙ c.chunks_exact-record-items.ensures.size;
      left = feeding_start _ _ _ (ap chunks_exact_rest same ∙ c.chunks_exact-record-items.ensures.rest);
    }

pub loop-record-preserved : goal.loop-record-preserved
loop-record-preserved c =
    let before = c.loop-record.invariant in
    let steps = c.in-Some.ensures.steps in
    record {
      size = steps.0 ∙ before.size;
      left = feeding_next _ _ _ _ _ before.left _ _ steps.1.0 (steps.1.1 ∙ before.size) (sym c.wants_more.ensures.answer ∙ c.if-not-wants_more.false) _ c.read-side.ensures.side;
    }

pub returns-in-None : goal.returns-in-None
returns-in-None c =
    let before = c.loop-record.invariant in
    record { fed = feeding_short _ _ _ _ _ before.left (whole_size _ _ before.size c.in-None.ensures.steps.1.0) }

pub returns-then-not-wants_more : goal.returns-then-not-wants_more
returns-then-not-wants_more c =
    record { fed = feeding_over _ _ _ _ _ c.loop-record.invariant.left (sym c.wants_more.ensures.answer ∙ c.if-not-wants_more.true) }
