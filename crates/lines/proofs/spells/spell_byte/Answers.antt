-- A byte that is stored is a text of one byte at that place. Assumes nothing.
use mathlib.Core.Path.{refl}
use Rattle.std.proofs.Common.{arith}
use Rattle.lines.proofs.Waits.{stored}
use Rattle.lines.proofs.spells.spell_byte.Goals as goal

pub returns : goal.returns
returns c = record { text = record { place = refl; bytes = stored _ _ _ (omega arith); fits = omega arith } }
