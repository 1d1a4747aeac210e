-- The distance is below 200 times the words where the time is below the sum. Assumes nothing.
use Prim.Native.Nat.{◌*◌}
use lib.Dec.{eqb}
use Rattle.terminal.specs.Messages.{is_sent}
use Rattle.words.proofs.Orders.{le_test}
use Rattle.terminal.proofs.Spans.{in_window}
use Rattle.terminal.proofs.states.Sending.is_sent.Goals as goal

pub returns : goal.returns
unfolding is_sent
returns c =
    record {
      answer = let a = c.args in
          rw (c.le.ensures, le_test _ _, c.since-past.ensures.distance)
          (in_window (eqb a.self.bus a.bus) a.self.from.0 (200 * a.self.words) a.time.0);
    }
