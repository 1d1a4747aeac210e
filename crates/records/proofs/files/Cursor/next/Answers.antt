-- One law for each way out. Assumes nothing.
use Rattle.std.proofs.lemmas.Result.{err_from_is_err_and}
use Rattle.records.proofs.Cases.{at_end, next_record, next_refused}
use borrow.Author.Rules.{rules}
use Rattle.records.proofs.files.Cursor.next.Goals as goal

pub returns-then-file-at : goal.returns-then-file-at
returns-then-file-at c = record { next = search (at_end, rules) }

pub returns-in_err-record : goal.returns-in_err-record
returns-in_err-record c = let p = err_from_is_err_and c.from_residual.result c.from_residual.ensures.1 in rw (p.1, p.2) (record { next = search (next_refused, rules) })

pub returns : goal.returns
returns c = record { next = search (next_record, rules) }
