-- One law for each way out. Assumes nothing.
use Rattle.salvage.proofs.Cases.{first_missing, first_kept, first_changed}
use Rattle.std.proofs.Common.{rules}
use Rattle.salvage.proofs.salvages.First.of.Goals as goal

pub returns-then-bytes-eq0 : goal.returns-then-bytes-eq0
returns-then-bytes-eq0 c = record { first = search (first_missing, rules) }

pub returns-then-bytes-eq-VERSION : goal.returns-then-bytes-eq-VERSION
returns-then-bytes-eq-VERSION c = record { first = search (first_kept, rules) }

pub returns : goal.returns
returns c = record { first = search (first_changed, rules) }
