-- `take` is safe and ends: each turn takes one byte or more of what is left, and no more than that. Assumes nothing.
use Rattle.bussave.proofs.Questions.{fed_inside, fed_few}
use Rattle.bussave.proofs.savings.Saving.take.Goals as goal

pub slice_bounds-rest-count : goal.slice_bounds-rest-count
slice_bounds-rest-count c = fed_few _ _ _ c.feed-fed.result c.feed-fed.ensures.fed

pub slice_bounds-rest-start : goal.slice_bounds-rest-start
slice_bounds-rest-start c = fed_few _ _ _ c.feed-fed.result c.feed-fed.ensures.fed

pub settle-next-requires : goal.settle-next-requires
settle-next-requires c = fed_inside _ _ _ _ c.feed-fed.result _ c.feed-fed.ensures.fed c.feed-fed.ensures.room c.with.ensures.salvage
