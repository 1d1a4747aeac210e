-- The room, and the line where there is one. Assumes nothing.
use native.Mathlib.Omega.{arith}
use Rattle.texts.proofs.Choices.{room_line, line_place, line_block}
use Rattle.texts.proofs.closings.put_run.Goals as goal

pub spell_run-requires : goal.spell_run-requires
spell_run-requires c =
    let room = room_line _ _ c.with_room-next.ensures.place in
    omega (arith, room)

pub returns : goal.returns
returns c =
    let room = c.with_room-next.ensures in
    let spelled = c.spell_run.ensures.text in
    record { place = line_place _ _ _ _ _ _ room.place spelled; block = line_block _ _ _ _ _ _ room.place spelled; goes = record { file = room.goes.file; stays = room.goes.stays } }
