-- The loop's invariant: the frames up to the place have their loads. Assumes nothing.
use mathlib.Core.Path.{◌≡◌}
use lib.ListN.{length, take}
use Rattle.schedule.specs.Frames.{placed_of, loads_of, frames_all}
use Rattle.schedule.proofs.schedules.fill.Given as goal

abbrev pub invariant-loop-frame : goal.invariant-loop-frame
invariant-loop-frame l = (length l.loads ≡ frames_all) × (take l.frame l.loads ≡ take l.frame (loads_of (placed_of l.messages l.firsts)))
