-- A text that is spelled into a block in its place: the form in which a whole line is put (02 a, c, j; the form is the house's). Assumes nothing.
use Rattle.std.specs.Prelude.{ℕ, zero, suc, ◌+◌, ◌≤◌, ◌≡◌, cond, List, [], ◌∷◌, ◌++◌, length, take}
use Prim.Native.Char.{code}
use Prim.Native.String.{String, len, char_at}
use Rattle.lines.specs.Sinks.{fits_behind, put_at, decimal_text}

-- The bytes of a text of signs below 80h: so many of them from a place on, and all.
abbrev pub text_from : String → ℕ → ℕ → List ℕ
text_from text at zero = []
text_from text at (suc n) = code (char_at text at) ∷ text_from text (at + 1) n

abbrev pub text_of : String → List ℕ
text_of text = text_from text 0 (len text)

-- A text, then a number in decimal.
abbrev pub number_text : List ℕ → ℕ → List ℕ
number_text text number = text ++ decimal_text number

-- A text was spelled into a block: it stands there from a place on, all other bytes are as before, and `after` is the place behind it.
pub record Spelled (block : List ℕ) (at : ℕ) (text last : List ℕ) (after : ℕ) : Type 0 where
  pub place : after ≡ at + length text
  pub bytes : last ≡ put_at block at text
  pub fits : at + length text ≤ length block

-- ---- a line more, for which room is asked once

-- The most bytes of a line, with room to spare.
abbrev pub line_most : ℕ
line_most = 512

-- Where so many bytes have room: behind what waits, or at the front where that has gone out first.
unfoldable pub room_at : ℕ → ℕ → ℕ
room_at at count = cond (fits_behind at count) at 0

-- The place behind a line more, and the block that holds it where it waits.
unfoldable pub place_after_line : ℕ → List ℕ → ℕ
place_after_line at text = room_at at line_most + length text

unfoldable pub block_after_line : List ℕ → ℕ → List ℕ → List ℕ
block_after_line block at text = put_at block (room_at at line_most) text

-- What goes out before it, where no write fails (as `goes_out` of a text).
unfoldable pub goes_out_before : List ℕ → ℕ → List ℕ
goes_out_before block at = cond (fits_behind at line_most) [] (take at block)
