-- The loop's invariant: the first i masks are those of the table, the rest zeros. Assumes nothing.
use mathlib.Core.Path.{◌≡◌}
use Prim.Native.Nat.{◌-◌, ◌≤◌}
use lib.ListN.{length, replicate}
use lib.Seq.{paste}
use Rattle.terminal.proofs.setups.masks.Given as goal

abbrev pub invariant-loop-i : goal.invariant-loop-i
invariant-loop-i l = (l.i ≤ 32) × (length l.copy ≡ 32) × (l.copy ≡ paste (replicate 32 0) 0 l.table l.i)

abbrev pub decreases-loop-i : goal.decreases-loop-i
decreases-loop-i l = 32 - l.i
