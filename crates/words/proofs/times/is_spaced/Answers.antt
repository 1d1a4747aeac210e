-- Back to back is what `is_spaced` says. Assumes nothing.
use Rattle.words.proofs.Spacings.{kinds_exact}
use Rattle.words.proofs.times.is_spaced.Goals as goal

pub returns : goal.returns
returns c = record { answer = rw (c.is_back_to_back.ensures.answer, c.spacing_between.ensures.spacing) (kinds_exact _ _).1 }
