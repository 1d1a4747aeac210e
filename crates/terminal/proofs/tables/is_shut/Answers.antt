-- A bus past the two has no transmitter to shut. Assumes nothing.
use Rattle.terminal.proofs.Places.{none_past}
use borrow.Author.Rules.{rules}
use Rattle.terminal.proofs.tables.is_shut.Goals as goal

pub returns-else-at-lt-BUSES : goal.returns-else-at-lt-BUSES
returns-else-at-lt-BUSES c = record { answer = none_past c.args.shut c.args.bus (search rules) }
