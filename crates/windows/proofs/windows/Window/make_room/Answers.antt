-- The laws of the bytes that wait, at the front of the room. Assumes nothing.
use Rattle.windows.proofs.Waiting.{front_window_lem, front_room_lem}
use borrow.Author.Rules.{rules}
use Rattle.windows.proofs.windows.Window.make_room.Goals as goal

pub returns : goal.returns
returns c = record { window = search (front_window_lem, rules); room = search (front_room_lem, rules) }
