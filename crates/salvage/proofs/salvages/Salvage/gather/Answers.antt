-- The law of the window after a chunk. Assumes nothing.
use Rattle.salvage.proofs.Cases.{gathered}
use Rattle.std.proofs.Common.{rules}
use Rattle.salvage.proofs.salvages.Salvage.gather.Goals as goal

pub returns : goal.returns
returns c = record { fed = search (gathered, rules); room = search rules }
