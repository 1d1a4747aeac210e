-- Before each turn the last digits stand behind the place, and the others are left; one may be left in the end. Assumes nothing.
use Rattle.lines.proofs.Spellings.{Filling}
use Rattle.lines.proofs.spells.spell_digits.Given as goal

abbrev pub invariant-loop-i : goal.invariant-loop-i
invariant-loop-i l = Filling l.initial.block l.at l.number l.count l.block l.left l.i

abbrev pub decreases-loop-i : goal.decreases-loop-i
decreases-loop-i l = l.i
