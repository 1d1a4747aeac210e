-- The law of asking, at what the calls give, and that the stretches stay inside what waits. Assumes nothing.
use Rattle.salvage.proofs.Asking.{kept_inside, in_room, asked}
use Rattle.std.proofs.Common.{arith, rules}
use Rattle.salvage.proofs.salvages.Salvage.ask.Goals as goal

pub slice_bounds-skip_stretch-start : goal.slice_bounds-skip_stretch-start
slice_bounds-skip_stretch-start c = search (kept_inside, rules)

pub returns : goal.returns
returns c = record { progress = search (asked, rules) }

pub slice_bounds-skip_stretch-count : goal.slice_bounds-skip_stretch-count
slice_bounds-skip_stretch-count c = search (kept_inside, rules)

pub overflow_add-behind : goal.overflow_add-behind
overflow_add-behind c =
    omega (arith, in_room c.args.self c.args.room.now c.bytes-waiting.result.now c.bytes-waiting.ensures.bytes c.keep_stretch-stretch.result c.keep_stretch-stretch.ensures.stretch c.skip_stretch-skipped.result c.skip_stretch-skipped.ensures.skipped)
