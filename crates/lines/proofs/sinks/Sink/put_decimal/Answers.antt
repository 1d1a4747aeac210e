-- The digits that `io` gives are the number's text, and it is put as any other. Assumes nothing.
use mathlib.Core.Path.{ap, ◌∙◌}
use lib.ListN.{length}
use Rattle.std.proofs.Common.{rules}
use Rattle.lines.specs.Sinks.{place_after, block_after}
use Rattle.lines.proofs.Texts.{decimal_spelt}
use Rattle.lines.proofs.sinks.Sink.put_decimal.Goals as goal

pub returns : goal.returns
returns c =
    let decimal = c.decimal-count.ensures in
    let spelt = decimal_spelt _ _ _ (search rules) decimal.len decimal.digits in
    let after = c.put_text.ensures in
    record { place = after.place ∙ ap (place_after _) (ap length spelt); block = after.block ∙ ap (block_after _ _) spelt; goes = after.goes }
