-- The laws of the bytes put behind those at the front. Assumes nothing.
use Rattle.windows.proofs.Waiting.{front_inside, filled_of_lem, filled_room_lem}
use borrow.Author.Rules.{rules}
use Rattle.windows.proofs.windows.Window.fill.Goals as goal

pub put_behind-taken-requires : goal.put_behind-taken-requires
put_behind-taken-requires c = search (front_inside, rules)

pub returns : goal.returns
returns c = record { filled = search (filled_of_lem, rules); room = search (filled_room_lem, rules) }
