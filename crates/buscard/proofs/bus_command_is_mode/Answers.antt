-- The answer of the wrapped test, as a number. Assumes nothing.
use mathlib.Core.Path.{ap, ◌∙◌}
use Rattle.words.proofs.Truth.{byte_of}
use Rattle.buscard.specs.Answers.{one_if}
use Rattle.buscard.proofs.bus_command_is_mode.Goals as goal

pub returns : goal.returns
unfolding one_if
returns c = record { answer = c.from.ensures ∙ byte_of c.is_mode.result ∙ ap one_if c.is_mode.ensures.answer }
