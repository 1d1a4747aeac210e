-- The distance is above 205 where the sum is below the time. Assumes nothing.
use Rattle.words.proofs.Orders.{lt_test}
use Rattle.terminal.specs.Messages.{is_late}
use Rattle.terminal.proofs.Spans.{since_more}
use Rattle.terminal.proofs.states.Message.is_late.Goals as goal

pub returns : goal.returns
unfolding is_late
returns c =
    record {
      answer = let a = c.args in
          rw (c.awaits_data.ensures.answer, c.lt.ensures, lt_test _ _, c.since-past.ensures.distance, since_more a.self.last.0 205 a.time.0);
    }
