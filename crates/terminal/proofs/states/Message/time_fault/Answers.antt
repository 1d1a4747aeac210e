-- By whether the last word came more than 545 after the command. Assumes nothing.
use mathlib.Core.Path.{◌≡◌, sym}
use Prim.Native.Nat.{ℕ, ◌+◌, ◌-◌}
use lib.Dec.{ltb}
use Rattle.terminal.specs.Messages.{is_overdue}
use Rattle.terminal.specs.Rules.{time_fault}
use Rattle.terminal.proofs.Spans.{since_more_of}
use Rattle.terminal.proofs.states.Message.time_fault.Goals as goal

-- overdue when not yet late
overdue_first : (start last : ℕ) → ltb 545 (last - start) ≡ ltb (start + 750) (last + 205)
overdue_first start last = since_more_of start 545 205 last

pub returns-then-awaits_data-awaits_first : goal.returns-then-awaits_data-awaits_first
unfolding time_fault is_overdue
returns-then-awaits_data-awaits_first c =
    record {
      fault = let m = c.args.self in
          let b = c in
          rw (sym (overdue_first m.start.0 m.last.0), sym b.since-waited.ensures.distance, sym b.awaits_data.ensures.answer, sym b.awaits_first.ensures.answer, c.if-awaits_data-awaits_first.true);
    }

pub returns : goal.returns
unfolding time_fault is_overdue
returns c =
    record {
      fault = let m = c.args.self in
          let b = c in
          rw (sym (overdue_first m.start.0 m.last.0), sym b.since-waited.ensures.distance, sym b.awaits_data.ensures.answer, sym b.awaits_first.ensures.answer, c.if-awaits_data-awaits_first.false);
    }
