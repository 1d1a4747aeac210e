-- The test is of the field. Assumes nothing.
use Rattle.words.proofs.commands.CommandWord.is_broadcast.Goals as goal

pub returns : goal.returns
returns c = record { answer = rw c.address.ensures.field }
