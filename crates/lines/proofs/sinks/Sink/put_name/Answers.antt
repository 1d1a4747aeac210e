-- What waits after the rest of the name is what waits after all of it. Assumes nothing.
use Rattle.lines.proofs.Goings.{goes_then}
use Rattle.lines.proofs.Namings.{name_place_turned, name_block_turned, name_place_ended, name_block_ended}
use Rattle.lines.proofs.sinks.Sink.put_name.Goals as goal

pub loop-byte-preserved : goal.loop-byte-preserved
loop-byte-preserved c =
    let inv = c.loop-byte.invariant in
    let inside = c.loop-byte-test.true in
    let put = c.put-after.ensures in
    record {
      place = name_place_turned _ _ _ _ put.place inside _ inv.place;
      block = name_block_turned _ _ _ _ put.place inside _ _ _ _ c.shown.ensures.byte put.block inv.block;
      goes = goes_then inv.goes put.goes;
    }

pub returns : goal.returns
returns c =
    let inv = c.loop-byte.invariant in
    let past = c.loop-byte-test.false in
    record { place = name_place_ended _ _ _ past _ inv.place; block = name_block_ended _ _ _ past _ _ inv.block; goes = inv.goes }
