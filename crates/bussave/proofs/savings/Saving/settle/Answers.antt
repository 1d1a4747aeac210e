-- The loop's invariant: what waits stands inside the room. The measure is how many bytes wait. Assumes nothing.
use Rattle.bussave.proofs.Questions.{asked_less, asked_inside}
use Rattle.bussave.proofs.savings.Saving.settle.Goals as goal

pub loop-listing-smaller : goal.loop-listing-smaller
loop-listing-smaller c = asked_less _ _ _ c.ask-next.ensures.salvage c.loop-listing.invariant (c.is_unsettled.ensures.unsettled c.loop-listing-test.true)

pub loop-listing-preserved : goal.loop-listing-preserved
loop-listing-preserved c = asked_inside _ _ _ c.ask-next.ensures.salvage c.loop-listing.invariant
