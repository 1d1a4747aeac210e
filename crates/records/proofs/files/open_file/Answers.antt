-- One law for each way out. Assumes nothing.
use Rattle.records.proofs.Cases.{opened_none, opened_bad, opened_at}
use borrow.Author.Rules.{rules}
use Rattle.records.proofs.files.open_file.Goals as goal

pub returns-in-Some : goal.returns-in-Some
returns-in-Some c = record { opened = search (opened_at, rules) }

pub returns-in_default : goal.returns-in_default
returns-in_default c = record { opened = search (opened_bad, rules) }

pub returns-in_default-2 : goal.returns-in_default-2
returns-in_default-2 c = record { opened = search (opened_none, rules) }
