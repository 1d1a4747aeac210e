-- A store past the end changes nothing. Assumes nothing.
use Rattle.terminal.proofs.Places.{set_past}
use borrow.Author.Rules.{rules}
use Rattle.terminal.proofs.states.Held.with_shut.Goals as goal

pub returns-else-at-lt-BUSES : goal.returns-else-at-lt-BUSES
returns-else-at-lt-BUSES c =
    record {
      held = let a = c.args in
          rw (set_past a.self.shut a.bus a.on (search rules));
    }
