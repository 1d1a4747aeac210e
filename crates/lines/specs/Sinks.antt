-- The bytes that wait in a sink, and where (01 Bench cards; 02 c; the blocks are the house's): they stand at the front of the block that is lent.
-- What a file then holds no definition can say. Assumes nothing.
use Rattle.std.specs.Prelude.{ℕ, zero, suc, ◌+◌, ◌/◌, ◌%◌, ◌^◌, Bool, cond, List, [], ◌∷◌, ◌++◌, ◌≡◌, IsSome, leb, ltb, length, take, drop}
use Rattle.lines.specs.declared.sinks.Sink.{Sink}

-- The bytes of a block.
abbrev pub block_bytes : ℕ
block_bytes = 65536

-- ---- a text more

-- Whether so many bytes fit behind those that wait.
unfoldable pub fits_behind : ℕ → ℕ → Bool
fits_behind at count = leb (at + count) block_bytes

-- What fits behind what waits, waits there; else what waits goes out first. A text of a block or more goes out with it.
unfoldable pub place_after : ℕ → ℕ → ℕ
place_after at count = cond (fits_behind at count) (at + count) (cond (ltb count block_bytes) count 0)

-- A text from a place on; all else is as it was.
abbrev pub put_at : List ℕ → ℕ → List ℕ → List ℕ
put_at block at text = take at block ++ (text ++ drop (at + length text) block)

-- The text stands where it waits; one that goes out leaves the block as it was.
unfoldable pub block_after : List ℕ → ℕ → List ℕ → List ℕ
block_after block at text =
    cond (fits_behind at (length text)) (put_at block at text) (cond (ltb (length text) block_bytes) (put_at block 0 text) block)

-- What goes out with a text, in this order, where no write fails. No contract can say it: that the code writes this is to be read there.
unfoldable pub goes_out : List ℕ → ℕ → List ℕ → List ℕ
goes_out block at text = cond (fits_behind at (length text)) [] (cond (ltb (length text) block_bytes) (take at block) (take at block ++ text))

-- A sink that goes on: the bytes go to the same file, and where a write has failed it stays so.
pub record Goes (before after : Sink) : Type 0 where
  pub file : after.fd ≡ before.fd
  pub stays : IsSome before.failure → IsSome after.failure

-- ---- words and numbers as text

-- "hexadecimal is written in capitals": 0 to 9, then A to F.
unfoldable pub digit_of : ℕ → ℕ
digit_of n = cond (ltb n 10) (48 + n) (55 + n)

-- A word as four hexadecimal digits, the highest first.
abbrev pub word_text : ℕ → List ℕ
word_text word = digit_of (word / 2 ^ 12 % 16) ∷ digit_of (word / 2 ^ 8 % 16) ∷ digit_of (word / 2 ^ 4 % 16) ∷ digit_of (word % 16) ∷ []

-- A number of at most so many digits in decimal, the highest first, with no zero in front.
unfoldable pub decimal_in : ℕ → ℕ → List ℕ
decimal_in zero n = []
decimal_in (suc most) n = cond (ltb n 10) [] (decimal_in most (n / 10)) ++ (digit_of (n % 10) ∷ [])

-- A number in decimal: one of 64 bits has at most 20 digits.
unfoldable pub decimal_text : ℕ → List ℕ
decimal_text n = decimal_in 20 n
