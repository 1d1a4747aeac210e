-- A byte is a text of one byte: behind what waits, or at the front after a flush. Assumes nothing.
use mathlib.Core.Path.{refl, ◌∙◌}
use Rattle.lines.proofs.Waits.{byte_behind, byte_place_behind, byte_front, byte_place_front}
use Rattle.lines.proofs.sinks.Sink.put.Goals as goal

pub returns-then-at-lt-BLOCK_BYTES : goal.returns-then-at-lt-BLOCK_BYTES
returns-then-at-lt-BLOCK_BYTES c =
    let room = c.if-at-lt-BLOCK_BYTES.true in
    let spelled = c.spell_byte.ensures.text in
    record { place = spelled.place ∙ byte_place_behind _ room; block = byte_behind _ _ _ _ room spelled.bytes; goes = record { file = refl; stays = λ h. h } }

pub returns : goal.returns
returns c =
    let none = c.if-at-lt-BLOCK_BYTES.false in
    let flushed = c.flush-next.ensures in
    let spelled = c.spell_byte-2.ensures.text in
    record {
      place = spelled.place ∙ byte_place_front _ none;
      block = byte_front _ _ _ _ none spelled.bytes;
      goes = record { file = flushed.goes.file; stays = flushed.goes.stays };
    }
