-- The distance from the middle of the parity bit. Assumes nothing.
use Rattle.words.proofs.Sums.{since_plus}
use borrow.Author.Rules.{rules}
use Rattle.words.proofs.times.gap.Goals as goal

pub returns : goal.returns
returns c =
    record {
      distance = let a = c.args in
          rw (c.since.ensures.distance, c.plus.ensures.later) (since_plus a.before.0 180 a.after.0 (search rules));
    }
