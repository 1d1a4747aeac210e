-- Line behind line, each in its place. Assumes nothing.
use mathlib.Core.Path.{◌≡◌}
use lib.ListN.{length}
use Rattle.texts.proofs.Lines.{Capacities}
use Rattle.texts.proofs.writings.spell_each_capacity.Given as goal

abbrev pub invariant-loop-frame : goal.invariant-loop-frame
invariant-loop-frame l = Capacities l.initial.block l.initial.place l.capacities l.block l.place l.frame × (length l.capacities ≡ 64)
