-- After a flush the line stands at the front of the block. Assumes nothing.
use Rattle.lines.proofs.Goings.{goes_then}
use Rattle.lines.proofs.Namings.{named_front}
use Rattle.lines.proofs.sinks.Sink.end_in_error.Goals as goal

pub returns : goal.returns
returns c =
    let first = c.flush_told-flushed.ensures in
    let named = c.put_named-ended.ensures in
    let last = c.flush_told.ensures in
    record { place = last.place; block = named_front _ _ _ _ _ first.place named.block; goes = goes_then (goes_then first.goes named.goes) last.goes }
