-- What is proved of a sink, of the text of a number, and of names. Each is proved in proofs/ under the name at its side. Assumes nothing.
use Rattle.std.specs.Prelude.{ℕ, ◌^◌, ◌≤◌, ◌<◌, ◌≡◌, true, not, ◌&&◌, List, ◌++◌, Some, leb, eqb, length, take}
use Rattle.lines.specs.Sinks.{block_bytes, place_after, block_after, goes_out, word_text, decimal_text}
use Rattle.lines.specs.Spells.{line_most, place_after_line, block_after_line, goes_out_before}
use Rattle.lines.specs.Numbers.{number_read, hexadecimal_read}
use Rattle.lines.specs.Names.{same_text, shown_of, shown_name, place_after_name, block_after_name, goes_out_name}

-- What goes out, and then what waits, is what waited and then the text: no byte is lost, none comes twice, all in order: nothing_lost
abbrev pub NothingLost : Type 0
NothingLost =
    (block text : List ℕ) (at : ℕ) → length block ≡ block_bytes
    → goes_out block at text ++ take (place_after at (length text)) (block_after block at text) ≡ take at block ++ text

-- The same of a line for which room is asked once: line_kept
abbrev pub LineKept : Type 0
LineKept =
    (block text : List ℕ) (at : ℕ) → length block ≡ block_bytes → length text ≤ line_most
    → goes_out_before block at ++ take (place_after_line at text) (block_after_line block at text) ≡ take at block ++ text

-- The same of a name, with the bytes that are shown of it: name_kept
abbrev pub NameKept : Type 0
NameKept =
    (block name : List ℕ) (at : ℕ) → length block ≡ block_bytes
    → goes_out_name block at name ++ take (place_after_name at name) (block_after_name block at name) ≡ take at block ++ shown_name name

-- No byte that is shown is a control character, so no name ends a line: shown_plain
abbrev pub ShownPlain : Type 0
ShownPlain = (byte : ℕ) → leb 32 (shown_of byte) && not (eqb (shown_of byte) 127) ≡ true

-- The decimal text of a number of 64 bits, read, is the number: decimal_back
abbrev pub DecimalBack : Type 0
DecimalBack = (n : ℕ) → n < 2 ^ 64 → number_read (decimal_text n) ≡ Some n

-- The four capitals of a word, read as so many, are the word: word_back
abbrev pub WordBack : Type 0
WordBack = (word : ℕ) → word < 2 ^ 16 → hexadecimal_read (word_text word) 4 ≡ Some word

-- Texts that are told to be the same are equal: same_text_lem
abbrev pub SameText : Type 0
SameText = (text wanted : List ℕ) → same_text text wanted ≡ true → text ≡ wanted

-- A text is told to be the same as itself: text_same
abbrev pub TextSame : Type 0
TextSame = (text : List ℕ) → same_text text text ≡ true
