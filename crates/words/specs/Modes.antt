-- Document 01, "Mode codes": the table row by row, and what it says of a mode command. Assumes nothing.
use Rattle.std.specs.Prelude.{ℕ, Bool, true, false, not, cond, ◌&&◌, ◌||◌, List, [], ◌∷◌, eqb, Option, Some, None}
use Rattle.words.specs.Words.{transmit_of, code_of, is_broadcast}
use Rattle.words.specs.declared.modes.Listing.{Listing}
use Rattle.words.specs.declared.modes.ModeWord.{ModeWord}
use Rattle.words.specs.declared.modes.ModeWord.TheVariants.{Sent, Received}

-- "| code | T/R | meaning | broadcast | data word |"
pub data Row : Type 0 where
  row : ℕ → ℕ → Bool → Option ModeWord → Row

abbrev pub yes : Bool
yes = true

abbrev pub no : Bool
no = false

-- The rows, where document 01 has two codes in a row ("4 / 5") as two rows. (002 table 1; 003 table 7.1 but for two misprints, codes 1
-- and 17, docs/SOURCES.md)
unfoldable pub rows : List Row
rows =
    row 0 1 no None  -- "dynamic bus control"
    ∷ row 1 1 yes None  -- "synchronize"
    ∷ row 2 1 no None  -- "transmit status word"
    ∷ row 3 1 yes None  -- "initiate self test"
    ∷ row 4 1 yes None  -- "transmitter shutdown"
    ∷ row 5 1 yes None  -- "override"
    ∷ row 6 1 yes None  -- "inhibit terminal flag"
    ∷ row 7 1 yes None  -- "override"
    ∷ row 8 1 yes None  -- "reset terminal"
    ∷ row 16 1 no (Some Sent)  -- "transmit vector word"
    ∷ row 17 0 yes (Some Received)  -- "synchronize with data"
    ∷ row 18 1 no (Some Sent)  -- "transmit last command"
    ∷ row 19 1 no (Some Sent)  -- "transmit BIT word"
    ∷ row 20 0 yes (Some Received)  -- "selected shutdown"
    ∷ row 21 0 yes (Some Received)  -- "override"
    ∷ []

-- What rows say of a T/R bit and a code. "All else is reserved."
unfoldable pub found : ℕ → ℕ → List Row → Option Listing
found t c [] = None
found t c (row code transmit broadcast word ∷ rest) =
    cond (eqb code c && eqb transmit t) (Some (record { broadcast = broadcast; word = word })) (found t c rest)

-- What the table says of a mode command.
unfoldable pub listing_of : ℕ → Option Listing
listing_of word = found (transmit_of word) (code_of word) rows

-- The table allows what it lists, but where the command goes to 31 only what has "yes" under broadcast.
unfoldable pub allows : Option Listing → Bool → Bool
allows None to_all = false
allows (Some listing) to_all = listing.broadcast || not to_all

-- "a mode command as in the code table" (01 Controller verdicts). What the terminal leaves out besides, "The terminal holds 20 and 21 ..
-- illegal", is the terminal's to say.
unfoldable pub is_allowed : ℕ → Bool
is_allowed word = allows (listing_of word) (is_broadcast word)
