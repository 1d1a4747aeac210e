-- A store past the end changes nothing. Assumes nothing.
use mathlib.Core.Path.{sym}
use Rattle.terminal.proofs.Places.{set_past}
use borrow.Author.Rules.{rules}
use Rattle.terminal.proofs.tables.with_word.Goals as goal

pub returns-else-at-lt-STAGED_WORDS : goal.returns-else-at-lt-STAGED_WORDS
returns-else-at-lt-STAGED_WORDS c = record { words = sym (set_past _ _ _ (search rules)) }
