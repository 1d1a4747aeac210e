-- The law of the part of the room that is copied to. Assumes nothing.
use Rattle.std.proofs.Common.{arith}
use Rattle.windows.proofs.Shifts.{filled}
use Rattle.windows.proofs.windows.put_behind.Goals as goal

pub returns : goal.returns
returns c = record { taken = omega arith; room = filled _ _ _ _ _ _ (omega arith) c.copy_from_slice.ensures.after }
