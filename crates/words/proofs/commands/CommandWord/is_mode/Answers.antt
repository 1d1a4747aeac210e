-- Both tests are of the subaddress. Assumes nothing.
use Rattle.words.specs.Words.{is_mode}
use Rattle.words.proofs.commands.CommandWord.is_mode.Goals as goal

pub returns : goal.returns
unfolding is_mode
returns c = record { answer = rw c.subaddress-subaddress.ensures.field }
