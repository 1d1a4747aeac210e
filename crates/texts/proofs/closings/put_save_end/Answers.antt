-- The room, the text and the line end. Assumes nothing.
use native.Mathlib.Omega.{arith}
use Rattle.lines.proofs.Spellings.{then}
use Rattle.texts.proofs.Choices.{room_line, line_place, line_block}
use Rattle.texts.proofs.closings.put_save_end.Goals as goal

pub spell_save_end-told-requires : goal.spell_save_end-told-requires
spell_save_end-told-requires c =
    let room = room_line _ _ c.with_room-next.ensures.place in
    omega (arith, room)

pub spell_byte-requires : goal.spell_byte-requires
spell_byte-requires c =
    let told = c.spell_save_end-told.ensures in
    let room = room_line _ _ c.with_room-next.ensures.place in
    omega (arith, room, told.most)

pub returns : goal.returns
returns c =
    let room = c.with_room-next.ensures in
    let told = c.spell_save_end-told.ensures in
    let spelled = then told.text c.spell_byte.ensures.text in
    record { place = line_place _ _ _ _ _ _ room.place spelled; block = line_block _ _ _ _ _ _ room.place spelled; goes = record { file = room.goes.file; stays = room.goes.stays } }
