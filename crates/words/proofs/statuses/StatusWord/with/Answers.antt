-- The flag's bit is set. Assumes nothing.
use Rattle.words.proofs.Flags.{flag_set}
use Rattle.words.proofs.statuses.StatusWord.with.Goals as goal

pub returns : goal.returns
returns c = record { word = rw c.bit.ensures.bit (flag_set c.args.flag c.args.self.0) }
