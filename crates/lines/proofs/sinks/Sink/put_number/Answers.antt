-- The text is put, then the digits behind it. Assumes nothing.
use Rattle.lines.proofs.Goings.{goes_then}
use Rattle.lines.proofs.Waits.{then_place, then_block}
use Rattle.lines.proofs.sinks.Sink.put_number.Goals as goal

pub returns : goal.returns
returns c =
    let first = c.put_text.ensures in
    let second = c.put_decimal.ensures in
    record {
      place = then_place _ _ _ _ _ first.place second.place;
      block = then_block _ _ _ _ _ _ _ first.place first.block second.block;
      goes = goes_then first.goes second.goes;
    }
