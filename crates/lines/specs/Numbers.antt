-- The number that a text spells in decimal, and in hexadecimal (01 Bench cards; 02 j). Assumes nothing.
use Rattle.std.specs.Prelude.{ℕ, ◌+◌, ◌*◌, ◌-◌, ◌^◌, Bool, true, cond, ◌&&◌, List, [], ◌∷◌, leb, ltb, eqb, length, Option, None, Some, option_and_then}

-- ---- decimal

-- A digit is one of the characters 0 to 9.
abbrev pub is_digit : ℕ → Bool
is_digit byte = leb 48 byte && leb byte 57

-- Whether each byte is a digit.
unfoldable pub are_digits : List ℕ → Bool
are_digits [] = true
are_digits (byte ∷ bytes) = is_digit byte && are_digits bytes

-- The number that digits spell behind those that spell `high`, the highest first.
unfoldable pub spelled_after : ℕ → List ℕ → ℕ
spelled_after high [] = high
spelled_after high (byte ∷ bytes) = spelled_after (high * 10 + (byte - 48)) bytes

-- That number, where all are digits and it fits 64 bits; else none.
unfoldable pub number_after : ℕ → List ℕ → Option ℕ
number_after high text = cond (are_digits text && ltb (spelled_after high text) (2 ^ 64)) (Some (spelled_after high text)) None

-- The number of a whole text of 1 to 20 digits; any other text has none.
unfoldable pub number_read : List ℕ → Option ℕ
number_read text = cond (leb 1 (length text) && leb (length text) 20) (number_after 0 text) None

-- ---- hexadecimal

-- The value of a digit "in either case": 0 to 9, then A to F or a to f; none of any other byte.
unfoldable pub digit_value : ℕ → Option ℕ
digit_value byte =
    cond (leb 48 byte && leb byte 57) (Some (byte - 48))
    (cond (leb 65 byte && leb byte 70) (Some (byte - 55)) (cond (leb 97 byte && leb byte 102) (Some (byte - 87)) None))

-- The number that digits spell behind those that spell `high`, the highest first; none where a byte is no digit.
unfoldable pub hexadecimal_after : ℕ → List ℕ → Option ℕ
hexadecimal_after high [] = Some high
hexadecimal_after high (byte ∷ bytes) = option_and_then (λ digit. hexadecimal_after (high * 16 + digit) bytes) (digit_value byte)

-- The number of a whole text of exactly so many digits, 1 to 16, so that it fits 64 bits; any other text has none.
unfoldable pub hexadecimal_read : List ℕ → ℕ → Option ℕ
hexadecimal_read text digits = cond (eqb (length text) digits && (leb 1 digits && leb digits 16)) (hexadecimal_after 0 text) None
