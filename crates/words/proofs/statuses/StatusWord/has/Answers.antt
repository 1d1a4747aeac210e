-- The flag's bit is tested. Assumes nothing.
use Rattle.words.proofs.Flags.{flag_tested}
use Rattle.words.proofs.statuses.StatusWord.has.Goals as goal

pub returns : goal.returns
returns c = record { answer = rw c.bit.ensures.bit (flag_tested c.args.flag c.args.self.0) }
