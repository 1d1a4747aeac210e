-- The distance is above 750 where the sum is below the time. Assumes nothing.
use Rattle.words.proofs.Orders.{lt_test}
use Rattle.terminal.specs.Messages.{is_overdue}
use Rattle.terminal.proofs.Spans.{since_more}
use Rattle.terminal.proofs.states.Message.is_overdue.Goals as goal

pub returns : goal.returns
unfolding is_overdue
returns c =
    record {
      answer = let a = c.args in
          rw (c.awaits_first.ensures.answer, c.lt.ensures, lt_test _ _, c.since-past.ensures.distance, since_more a.self.start.0 750 a.time.0);
    }
