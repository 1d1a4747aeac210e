-- What waits at the front of the chunk stands inside it. Assumes nothing.
use Rattle.windows.proofs.Waiting.{front_inside}
use Rattle.std.proofs.Common.{rules}
use Rattle.busdump.proofs.readers.Reader.refill.Goals as goal

pub read_behind-requires : goal.read_behind-requires
read_behind-requires c = search (front_inside, rules)
