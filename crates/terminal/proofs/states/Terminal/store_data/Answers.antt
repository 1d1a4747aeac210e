-- By whether the words are stored. Assumes nothing.
use mathlib.Core.Path.{sym, ◌∙◌}
use Rattle.terminal.specs.Settling.{stored_of}
use native.Mathlib.Omega.{arith}
use Rattle.words.proofs.Counts.{words_most}
use Rattle.terminal.proofs.states.Terminal.store_data.Goals as goal

pub store-requires : goal.store-requires
store-requires c = omega (arith, words_most c.args.self.message.command.0)

pub returns-then-stores_data : goal.returns-then-stores_data
unfolding stored_of
returns-then-stores_data c = record { receive = rw (sym c.stores_data.ensures.answer ∙ c.if-stores_data.true, c.store.ensures.table, c.words.ensures.count, c.subaddress.ensures.field) }

pub returns-else-stores_data : goal.returns-else-stores_data
unfolding stored_of
returns-else-stores_data c = record { receive = rw (sym c.stores_data.ensures.answer ∙ c.if-stores_data.false) }
