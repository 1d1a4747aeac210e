-- The lines that the document shows, by computation. Assumes nothing.
use mathlib.Core.Path.{refl}
use lib.Count.{ones_in}
use Rattle.words.specs.Words.{is_mode, words_of, is_odd, parity_of}
use Rattle.salvage.specs.Machine.{is_changed}
use Rattle.lines.specs.Sinks.{digit_of, decimal_in, decimal_text}
use Rattle.texts.specs.Entries.{bus_text, verdict_name, address_text, direction_text, kind_text, flaw_mark, flaw_text, flaws_text}
use Rattle.texts.specs.Saves.{first_text}
use Rattle.texts.specs.Theorems.{LineExamples, AddedExamples}

pub line_examples : LineExamples
unfolding bus_text decimal_text decimal_in digit_of verdict_name first_text is_changed
line_examples =
    record { to_one = refl; two_between = refl; outside = refl; impossible = refl; log_end = refl; log_refused = refl; run = refl; save_end = λ last. refl }

pub added_examples : AddedExamples
unfolding bus_text decimal_text decimal_in digit_of verdict_name address_text direction_text kind_text flaw_mark flaw_text flaws_text is_mode words_of parity_of is_odd ones_in
added_examples = record { to_one = refl; two_between = refl; outside = refl; impossible = refl }
