-- What `get` says of the two places. Assumes nothing.
use mathlib.Core.Path.{refl}
use Rattle.lines.proofs.Partings.{between_is}
use Rattle.lines.proofs.parts.between.Goals as goal

pub returns : goal.returns
returns c = record { bytes = between_is _ _ _ _ _ _ refl c.get.ensures.lookup.0 c.unwrap_or.ensures }
