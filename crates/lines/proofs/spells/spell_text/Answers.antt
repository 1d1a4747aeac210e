-- The law of the part of the block that is copied to. Assumes nothing.
use mathlib.Core.Path.{refl}
use Rattle.std.proofs.Common.{arith}
use Rattle.lines.proofs.Waits.{copied}
use Rattle.lines.proofs.spells.spell_text.Goals as goal

pub returns : goal.returns
returns c = record { text = record { place = refl; bytes = copied _ _ _ _ _ (omega arith) c.copy_from_slice.ensures.after; fits = omega arith } }
