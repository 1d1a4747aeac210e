-- The room, and the text in it. Assumes nothing.
use native.Mathlib.Omega.{arith}
use Rattle.texts.specs.Schedules.{plan_most}
use Rattle.texts.proofs.Choices.{room_for, room_place, room_block}
use Rattle.texts.proofs.writings.put_plan.Goals as goal

pub spell_plan-requires : goal.spell_plan-requires
spell_plan-requires c =
    let room = room_for plan_most _ _ (omega arith) c.with_room-next.ensures.place in
    omega (arith, room)

pub returns : goal.returns
returns c =
    let room = c.with_room-next.ensures in
    let spelled = c.spell_plan.ensures.text in
    record { place = room_place plan_most _ _ _ _ _ _ room.place spelled; block = room_block plan_most _ _ _ _ _ _ room.place spelled; goes = record { file = room.goes.file; stays = room.goes.stays } }
