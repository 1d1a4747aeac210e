-- One law for each way out, for the answer and for the room. Assumes nothing.
use Rattle.salvage.proofs.Cases.{begun_none, begun_none_room, begun_some, begun_some_room, begun_fits}
use Rattle.std.proofs.Common.{arith, rules}
use Rattle.salvage.proofs.salvages.Salvage.begin.Goals as goal

pub returns-then-chunk-eq0 : goal.returns-then-chunk-eq0
returns-then-chunk-eq0 c = record { fed = search (begun_none, rules); room = search (begun_none_room, rules) }

pub returns : goal.returns
returns c = record { fed = search (begun_some, rules); room = search (begun_some_room, rules) }

pub overflow_add-result : goal.overflow_add-result
overflow_add-result c =
    omega (arith, begun_fits c.args.self c.args.room.now c.args.room.now c.args.chunk.now c.gather-fed.result c.if-chunk-eq0.false c.of.result c.gather-fed.ensures.fed)
