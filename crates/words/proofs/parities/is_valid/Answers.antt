-- The four tests, the last by the parity leaf. Assumes nothing.
use Rattle.words.specs.Words.{is_valid}
use Rattle.words.proofs.parities.is_valid.Goals as goal

pub returns : goal.returns
unfolding is_valid
returns c = record { answer = rw c.is_odd.ensures.answer }
