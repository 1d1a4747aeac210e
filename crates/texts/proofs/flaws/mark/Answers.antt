-- The test chooses the sign. Assumes nothing.
use Rattle.texts.proofs.Choices.{mark_comma, mark_equals}
use Rattle.texts.proofs.flaws.mark.Goals as goal

pub returns-then-more : goal.returns-then-more
returns-then-more c = record { byte = mark_comma _ c.if-more.true }

pub returns-else-more : goal.returns-else-more
returns-else-more c = record { byte = mark_equals _ c.if-more.false }
