-- Both tests are of the distance that `since` gives. Assumes nothing.
use Rattle.words.specs.Words.{is_spaced}
use Rattle.words.proofs.Orders.{le_test}
use Rattle.terminal.proofs.states.Message.is_spaced.Goals as goal

pub returns : goal.returns
unfolding is_spaced
returns c = record { answer = rw (c.le.ensures, le_test _ _, c.le-2.ensures, le_test _ _, c.since-past.ensures.distance) }
