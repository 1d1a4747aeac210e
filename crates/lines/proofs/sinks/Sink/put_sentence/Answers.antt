-- The program is put, then the colon, then the name. Assumes nothing.
use Rattle.lines.proofs.Goings.{goes_then}
use Rattle.lines.proofs.Namings.{sentence_place, sentence_block}
use Rattle.lines.proofs.sinks.Sink.put_sentence.Goals as goal

pub returns : goal.returns
returns c =
    let first = c.put_text.ensures in
    let second = c.put_text-2.ensures in
    let third = c.put_name.ensures in
    record {
      place = sentence_place _ _ _ _ _ _ first.place second.place third.place;
      block = sentence_block _ _ _ _ _ first.place second.place _ _ _ _ first.block second.block third.block;
      goes = goes_then (goes_then first.goes second.goes) third.goes;
    }
