-- What is left of the block is asked for only where no more waits than it holds. Assumes nothing.
use Rattle.std.proofs.Common.{rules}
use Rattle.lines.proofs.Waits.{fits_left, fits_none}
use Rattle.lines.proofs.sinks.fits.Goals as goal

pub returns-then-at-le-BLOCK_BYTES : goal.returns-then-at-le-BLOCK_BYTES
returns-then-at-le-BLOCK_BYTES c = record { fits = search (fits_left, rules) }

pub returns-else-at-le-BLOCK_BYTES : goal.returns-else-at-le-BLOCK_BYTES
returns-else-at-le-BLOCK_BYTES c = record { fits = search (fits_none, rules) }
