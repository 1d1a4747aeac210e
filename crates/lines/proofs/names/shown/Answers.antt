-- A control character is a question mark, any other byte is as it is. Assumes nothing.
use Rattle.std.proofs.Common.{rules}
use Rattle.lines.proofs.Namings.{shown_mark, shown_byte}
use Rattle.lines.proofs.names.shown.Goals as goal

pub returns-then-control : goal.returns-then-control
returns-then-control c = record { byte = search (shown_mark, rules) }

pub returns-else-control : goal.returns-else-control
returns-else-control c = record { byte = search (shown_byte, rules) }
