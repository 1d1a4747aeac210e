-- What was spelled apart is taken out, and put as any text. Assumes nothing.
use mathlib.Core.Path.{sym, ap, ◌∙◌}
use lib.ListN.{length}
use Rattle.lines.specs.Sinks.{place_after, block_after}
use Rattle.texts.proofs.Choices.{spelled_size, taken_out}
use Rattle.texts.proofs.puts.put_apart.Goals as goal

pub slice_bounds-between-end : goal.slice_bounds-between-end
slice_bounds-between-end c = c.large_buffer-line.ensures ∙ sym (spelled_size c.spell_line-end.ensures.text)

pub returns : goal.returns
returns c =
    let line = c.between.ensures.bytes ∙ taken_out _ _ _ _ c.spell_line-end.ensures.text in
    let after = c.put_text.ensures in
    record { place = after.place ∙ ap (place_after _) (ap length line); block = after.block ∙ ap (block_after _ _) line; goes = after.goes }
