-- Numbers in bytes: "All big-endian." (01 Word records on file). Assumes nothing.
use Rattle.std.specs.Prelude.{ℕ, zero, suc, ◌+◌, ◌*◌, ◌/◌, ◌%◌, List, [], ◌∷◌, ◌++◌}

-- The number that bytes spell behind those that spell `high`, and alone.
unfoldable pub number_after : ℕ → List ℕ → ℕ
number_after high [] = high
number_after high (byte ∷ bytes) = number_after (high * 256 + byte) bytes

abbrev pub number_of : List ℕ → ℕ
number_of bytes = number_after 0 bytes

-- A number in that many bytes, its low ones where it does not fit.
abbrev pub bytes_of : ℕ → ℕ → List ℕ
bytes_of zero number = []
bytes_of (suc n) number = bytes_of n (number / 256) ++ (number % 256 ∷ [])
