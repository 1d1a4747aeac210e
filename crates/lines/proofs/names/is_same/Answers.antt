-- What `==` says of two texts is what the definition says. Assumes nothing.
use mathlib.Core.Path.{◌∙◌}
use Rattle.lines.proofs.Namings.{same_is}
use Rattle.lines.proofs.names.is_same.Goals as goal

pub returns : goal.returns
returns c = record { answer = c.eq.ensures ∙ same_is _ _ }
