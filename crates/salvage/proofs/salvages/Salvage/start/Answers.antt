-- Its window is the empty one. Assumes nothing.
use Rattle.salvage.proofs.salvages.Salvage.start.Goals as goal

pub returns : goal.returns
returns c = record { salvage = rw c.empty.ensures.window }
