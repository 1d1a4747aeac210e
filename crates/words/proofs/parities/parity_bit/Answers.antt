-- By the parity leaf at a parity bit of 0. Assumes nothing.
use mathlib.Core.Path.{◌∙◌}
use Rattle.words.specs.Words.{parity_of}
use Rattle.words.proofs.Truth.{byte_of_not}
use Rattle.words.proofs.parities.parity_bit.Goals as goal

pub returns : goal.returns
unfolding parity_of
returns c = record { bit = c.from.ensures ∙ rw (byte_of_not c.is_odd.result, c.is_odd.ensures.answer) }
