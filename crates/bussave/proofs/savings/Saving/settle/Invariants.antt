-- The loop's invariant: what waits stands inside the room. The measure is how many bytes wait. Assumes nothing.
use Rattle.std.proofs.Common.{◌≤◌, length}
use Rattle.windows.specs.Windows.{count_of}
use Rattle.bussave.proofs.savings.Saving.settle.Given as goal

abbrev pub invariant-loop-listing : goal.invariant-loop-listing
invariant-loop-listing l = l.next.salvage.window.to ≤ length l.room

abbrev pub decreases-loop-listing : goal.decreases-loop-listing
decreases-loop-listing l = count_of l.next.salvage.window
