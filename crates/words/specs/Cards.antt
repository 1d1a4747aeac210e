-- Document 01, "Bench cards": the starred cards on words. They stand in the one table of all cards, which the crate `terminal` has with its
-- one proof. Assumes nothing.
use Rattle.std.specs.Prelude.{Bool, List, [], ◌∷◌, ℕ, eqb}
use Rattle.words.specs.Words.{address_of, transmit_of, subaddress_of, command_of, parity_of, words_of}

-- A word and the parity bit that it needs; a count field, put into 2842, and the number of data words that it means.
pub data Card : Type 0 where
  needs : ℕ → ℕ → Card
  means : ℕ → ℕ → Card

unfoldable pub holds : Card → Bool
holds (needs word parity) = eqb (parity_of word) parity
holds (means count words) = eqb (words_of (command_of (address_of 0x2842) (transmit_of 0x2842) (subaddress_of 0x2842) count)) words

unfoldable pub word_cards : List Card
word_cards =
    needs 0x2842 1  -- "* 2842 needs parity 1"
    ∷ needs 0x2C42 0  -- "* 2C42 needs 0"
    ∷ means 0 32  -- "* count 0 is 32"
    ∷ []
