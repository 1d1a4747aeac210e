-- The three ways of a text: behind what waits, at the front after a flush, out after it. Assumes nothing.
use mathlib.Core.Path.{refl}
use Rattle.std.proofs.Common.{rules}
use Rattle.lines.proofs.Goings.{goes_then}
use Rattle.lines.proofs.Waits.{fits_room, place_behind, block_behind, place_front, block_front, place_out, block_out}
use Rattle.lines.proofs.sinks.Sink.put_text.Goals as goal

pub append-requires : goal.append-requires
append-requires c = search (fits_room, rules)

pub returns-then-fits : goal.returns-then-fits
returns-then-fits c =
    let fits = c.fits.ensures.fits in
    let taken = c.if-fits.true in
    let after = c.append.ensures in
    record { place = place_behind _ _ _ fits _ taken after.place; block = block_behind _ _ _ _ fits _ taken after.block; goes = after.goes }

pub returns-then-text-lt-BLOCK_BYTES : goal.returns-then-text-lt-BLOCK_BYTES
returns-then-text-lt-BLOCK_BYTES c =
    let fits = c.fits.ensures.fits in
    let left = c.if-fits.false in
    let flushed = c.flush-flushed.ensures in
    let few = c.if-text-lt-BLOCK_BYTES.true in
    let after = c.append-then-text-lt-BLOCK_BYTES.ensures in
    record {
      place = place_front _ _ _ fits _ left few _ flushed.place after.place;
      block = block_front _ _ _ _ fits _ left few _ flushed.place after.block;
      goes = goes_then flushed.goes after.goes;
    }

pub returns : goal.returns
returns c =
    let fits = c.fits.ensures.fits in
    let left = c.if-fits.false in
    let flushed = c.flush-flushed.ensures in
    let many = c.if-text-lt-BLOCK_BYTES.false in
    let after = c.write.ensures in
    record {
      place = place_out _ _ _ fits _ left many after.place;
      block = block_out _ _ _ _ fits _ left many refl;
      goes = goes_then flushed.goes after.goes;
    }
