-- A number's decimal text, read back: it has 1 to 20 bytes, each is a digit, and they spell the number. A word's four digits, read back. Assumes nothing.
use mathlib.Core.Path.{◌≡◌, refl, sym, ap, ◌∙◌}
use mathlib.Core.Bool.{Bool, true, false, cond, ◌&&◌}
use Prim.Native.Nat.{ℕ, zero, suc, ◌+◌, ◌*◌, ◌-◌, ◌/◌, ◌%◌, ◌^◌, ◌≤◌, ◌<◌}
use native.Mathlib.Nat.{pow-suc}
use native.Mathlib.Omega.{arith}
use mathlib.Core.List.{List, [], ◌∷◌, ◌++◌}
use lib.Dec.{ltb}
use lib.ListN.{length, length-append}
use borrow.Author.Tests.{ltb-true, lt-ltb, le-leb}
use lib.Pow.{shr-shr}
use Rattle.words.proofs.Truth.{passes, passed}
use Rattle.std.proofs.Common.{Some}
use Rattle.lines.specs.Sinks.{digit_of, decimal_in, decimal_text}
use Rattle.lines.specs.Numbers.{is_digit, are_digits, spelled_after, number_after, number_read, digit_value, hexadecimal_after, hexadecimal_read}
use Rattle.lines.specs.Theorems.{DecimalBack, WordBack}
use Rattle.lines.proofs.Hexadecimals.{same_value, same_value_lem}

-- ---- one digit more at the end

spelled_snoc : (high : ℕ) (text : List ℕ) (byte : ℕ) → spelled_after high (text ++ (byte ∷ [])) ≡ spelled_after high text * 10 + (byte - 48)
unfolding spelled_after
spelled_snoc high [] byte = refl
spelled_snoc high (x ∷ xs) byte = spelled_snoc (high * 10 + (x - 48)) xs byte

digits_snoc : (text : List ℕ) (byte : ℕ) → are_digits text ≡ true → is_digit byte ≡ true → are_digits (text ++ (byte ∷ [])) ≡ true
unfolding are_digits
digits_snoc [] byte a d = rw d
digits_snoc (x ∷ xs) byte a d = by (is_digit x) (λ h. digits_snoc xs byte h d) a
  where
    by : (b : Bool) → (are_digits xs ≡ true → are_digits (xs ++ (byte ∷ [])) ≡ true) → b && are_digits xs ≡ true → b && are_digits (xs ++ (byte ∷ [])) ≡ true
    by true more h = more h
    by false more h = h

-- ---- the text of a number

last_digit : (n : ℕ) → digit_of (n % 10) ≡ 48 + n % 10
unfolding digit_of
last_digit n = rw (lt-ltb (n % 10) 10 (omega arith))

is_digit_lem : (n : ℕ) → is_digit (digit_of (n % 10)) ≡ true
is_digit_lem n =
    let e = last_digit n in
    rw (le-leb 48 (digit_of (n % 10)) (omega arith), le-leb (digit_of (n % 10)) 57 (omega arith))

pub text_digits : (most n : ℕ) → are_digits (decimal_in most n) ≡ true
unfolding decimal_in are_digits
text_digits zero n = refl
text_digits (suc most) n = digits_snoc (cond (ltb n 10) [] (decimal_in most (n / 10))) (digit_of (n % 10)) (by (ltb n 10) (text_digits most (n / 10))) (is_digit_lem n)
  where
    by : (b : Bool) → are_digits (decimal_in most (n / 10)) ≡ true → are_digits (cond b [] (decimal_in most (n / 10))) ≡ true
    by true h = refl
    by false h = h

pub text_length : (most n : ℕ) → length (decimal_in most n) ≤ most
unfolding decimal_in
text_length zero n = omega arith
text_length (suc most) n = by (ltb n 10) (text_length most (n / 10))
  where
    by : (b : Bool) → length (decimal_in most (n / 10)) ≤ most → length (cond b [] (decimal_in most (n / 10)) ++ (digit_of (n % 10) ∷ [])) ≤ suc most
    by true h = omega arith
    by false h = simp length-append (omega arith)

pub text_some : (most n : ℕ) → 1 ≤ length (decimal_in (suc most) n)
unfolding decimal_in
text_some most n = simp length-append (omega arith)

text_spelled : (most n : ℕ) → n < 10 ^ most → spelled_after 0 (decimal_in most n) ≡ n
unfolding decimal_in spelled_after
text_spelled zero n l = omega arith
text_spelled (suc most) n l =
    spelled_snoc 0 (cond (ltb n 10) [] (decimal_in most (n / 10))) (digit_of (n % 10))
    ∙ by (ltb n 10) refl (text_spelled most (n / 10) (omega (arith, pow-suc 10 most)))
  where
    by : (b : Bool) → ltb n 10 ≡ b → spelled_after 0 (decimal_in most (n / 10)) ≡ n / 10
        → spelled_after 0 (cond b [] (decimal_in most (n / 10))) * 10 + (digit_of (n % 10) - 48) ≡ n
    by true e h = omega (arith, ltb-true n 10 e, last_digit n)
    by false e h = omega (arith, last_digit n)

pub decimal_back : DecimalBack
unfolding decimal_text number_read number_after
decimal_back n l =
    rw (
      le-leb 1 (length (decimal_in 20 n)) (text_some 19 n),
      le-leb (length (decimal_in 20 n)) 20 (text_length 20 n),
      text_digits 20 n,
      text_spelled 20 n (omega arith),
      lt-ltb n (2 ^ 64) l,
    )

-- ---- the four digits of a word

digit_back : (n : ℕ) → digit_value (digit_of (n % 16)) ≡ Some (n % 16)
unfolding digit_value digit_of passes
digit_back n =
    same_value_lem (digit_value (digit_of (n % 16))) (Some (n % 16))
    (passed 16 (λ (i : ℕ). same_value (digit_value (digit_of i)) (Some i)) refl (n % 16) (omega arith))

word_spelled : (n : ℕ) → n < 2 ^ 16 → (((0 * 16 + n / 2 ^ 12 % 16) * 16 + n / 2 ^ 8 % 16) * 16 + n / 2 ^ 4 % 16) * 16 + n % 16 ≡ n
word_spelled n l =
    let second : n / 2 ^ 8 ≡ n / 2 ^ 4 / 16 = sym (shr-shr n 4 4) in
    let third : n / 2 ^ 12 ≡ n / 2 ^ 8 / 16 = sym (shr-shr n 8 4) in
    let high : n / 2 ^ 12 % 16 ≡ n / 2 ^ 12 = omega arith in
    let two : n / 2 ^ 12 * 16 + n / 2 ^ 8 % 16 ≡ n / 2 ^ 8 = omega (arith, third) in
    let three : n / 2 ^ 8 * 16 + n / 2 ^ 4 % 16 ≡ n / 2 ^ 4 = omega (arith, second) in
    omega arith

pub word_back : WordBack
unfolding hexadecimal_read hexadecimal_after
word_back word l =
    rw (digit_back (word / 2 ^ 12), digit_back (word / 2 ^ 8), digit_back (word / 2 ^ 4), digit_back word)
    (ap Some (word_spelled word l))
