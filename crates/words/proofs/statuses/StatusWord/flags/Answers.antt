-- The mask keeps the six flags. Assumes nothing.
use Rattle.words.proofs.Flags.{flags_kept}
use Rattle.words.proofs.statuses.StatusWord.flags.Goals as goal

pub returns : goal.returns
returns c = record { flags = flags_kept c.args.self.0 }
