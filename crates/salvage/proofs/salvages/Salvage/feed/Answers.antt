-- One law for each way out, for the answer and for the room. Assumes nothing.
use Rattle.salvage.specs.declared.salvages.First.TheVariants.{Missing, Kept, Changed}
use Rattle.salvage.proofs.Cases.{fed_by_lem, room_by}
use Rattle.salvage.proofs.salvages.Salvage.feed.Goals as goal

pub returns-in-Missing : goal.returns-in-Missing
returns-in-Missing c = record { fed = fed_by_lem _ _ _ Missing c.in-Missing.is c.begin.ensures.fed; room = room_by _ _ _ Missing c.in-Missing.is c.begin.ensures.room }

pub returns-in-Kept : goal.returns-in-Kept
returns-in-Kept c = record { fed = fed_by_lem _ _ _ Kept c.in-Kept.is c.gather.ensures.fed; room = room_by _ _ _ Kept c.in-Kept.is c.gather.ensures.room }

pub returns-in-Changed : goal.returns-in-Changed
returns-in-Changed c = record { fed = fed_by_lem _ _ _ Changed c.in-Changed.is c.gather-in-Changed.ensures.fed; room = room_by _ _ _ Changed c.in-Changed.is c.gather-in-Changed.ensures.room }
