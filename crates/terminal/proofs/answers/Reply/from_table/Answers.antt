-- The count is at most 32, so the words of a subaddress lie in the table. Assumes nothing.
use native.Mathlib.Omega.{arith}
use Rattle.words.proofs.Counts.{words_most}
use Rattle.terminal.proofs.answers.Reply.from_table.Goals as goal

pub fetch-words-requires : goal.fetch-words-requires
fetch-words-requires c = omega (arith, words_most c.args.command.0)

pub returns : goal.returns
returns c = record { reply = rw (c.fetch-words.ensures.words, c.subaddress.ensures.field, c.words-count.ensures.count) }
