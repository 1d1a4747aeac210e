-- The text is put, then the name, then the end of the line. Assumes nothing.
use Rattle.lines.proofs.Goings.{goes_then}
use Rattle.lines.proofs.Namings.{named_place, named_block}
use Rattle.lines.proofs.sinks.Sink.put_named.Goals as goal

pub returns : goal.returns
returns c =
    let first = c.put_text-begun.ensures in
    let second = c.put_name.ensures in
    let third = c.put.ensures in
    record {
      place = named_place _ _ _ _ _ _ first.place second.place third.place;
      block = named_block _ _ _ _ _ first.place second.place _ _ _ _ first.block second.block third.block;
      goes = goes_then (goes_then first.goes second.goes) third.goes;
    }
