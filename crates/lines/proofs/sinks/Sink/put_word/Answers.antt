-- The four digits are put as any other text. Assumes nothing.
use mathlib.Core.Path.{ap, ◌∙◌}
use lib.ListN.{length}
use Rattle.lines.specs.Sinks.{place_after, block_after}
use Rattle.lines.proofs.sinks.Sink.put_word.Goals as goal

pub returns : goal.returns
returns c =
    let digits = c.word_digits-digits.ensures.digits in
    let after = c.put_text.ensures in
    record { place = after.place ∙ ap (place_after _) (ap length digits); block = after.block ∙ ap (block_after _ _) digits; goes = after.goes }
