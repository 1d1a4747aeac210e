-- The distance is at least 260 where the sum is at most the time. Assumes nothing.
use native.Mathlib.Omega.{arith}
use Rattle.words.proofs.Orders.{le_test}
use Rattle.terminal.specs.Messages.{is_due}
use Rattle.terminal.proofs.Spans.{since_least}
use Rattle.terminal.proofs.states.Message.is_due.Goals as goal

pub returns : goal.returns
unfolding is_due
returns c =
    record {
      answer = let a = c.args in
          rw (c.is_whole.ensures.answer, c.le.ensures, le_test _ _, c.since-past.ensures.distance, since_least a.self.last.0 260 a.time.0 (omega arith));
    }
