-- Words and numbers as text: the digits that the code adds up and those that `io` gives are the ones of the definitions. Assumes nothing.
use mathlib.Core.Path.{◌≡◌, sym, ap, ap₂, subst, ◌∙◌}
use mathlib.Core.Bool.{Bool, cond}
use Prim.Native.Nat.{ℕ, zero, suc, ◌+◌, ◌*◌, ◌-◌, ◌/◌, ◌%◌, ◌^◌, ◌≤◌, ◌<◌}
use native.Mathlib.Nat.{pow-suc, lt_of_not-le}
use native.Mathlib.Omega.{arith}
use native.Mathlib.Decide.{dec_le}
use mathlib.Core.Logic.{dite}
use mathlib.Core.List.{List, [], ◌∷◌, ◌++◌}
use lib.Pow.{pow-add}
use lib.ListN.{take}
use borrow.Author.Tests.{lt-ltb, le-ltb}
use Rattle.io.specs.Digits.{hex_digit_ascii, last_digits, IsDigitCount}
use Rattle.lines.specs.Sinks.{digit_of, word_text, decimal_in, decimal_text}

-- ---- hexadecimal

-- the sum that the code makes, below ten and above
pub digit_low : (n : ℕ) → n < 10 → 48 + n ≡ digit_of n
unfolding digit_of
digit_low n l = rw (lt-ltb n 10 l)

pub digit_high : (n : ℕ) → 10 ≤ n → 55 + n ≡ digit_of n
unfolding digit_of
digit_high n l = rw (le-ltb n 10 l)

pub word_spelt : (word a b c d : ℕ) → a ≡ digit_of (word / 2 ^ 12 % 16) → b ≡ digit_of (word / 2 ^ 8 % 16) → c ≡ digit_of (word / 2 ^ 4 % 16)
    → d ≡ digit_of (word % 16) → a ∷ b ∷ c ∷ d ∷ [] ≡ word_text word
word_spelt word a b c d p q r s = rw (p, q, r, s)

-- ---- decimal

-- a digit of a decimal number is one of the first ten
glyph_is : (n : ℕ) → hex_digit_ascii (n % 10) ≡ digit_of (n % 10)
unfolding digit_of
glyph_is n = rw (lt-ltb (n % 10) 10 (omega arith))

ten_power : (k : ℕ) → 1 ≤ 10 ^ k
ten_power zero = omega arith
ten_power (suc k) = omega (arith, pow-suc 10 k, ten_power k)

-- the fewest digits that hold a number
pub decimal_in_lem : (most k n : ℕ) → k ≤ most → IsDigitCount 10 1 n k → last_digits 10 k n ≡ decimal_in most n
unfolding decimal_in
decimal_in_lem most zero n l f = absurd (omega (arith, f.0))
decimal_in_lem zero (suc k) n l f = absurd (omega (arith, l))
decimal_in_lem (suc most) (suc zero) n l f =
    let few : n < 10 = omega (arith, f.1) in
    ap (λ (g : ℕ). g ∷ []) (glyph_is n)
    ∙ sym (ap (λ (t : Bool). cond t [] (decimal_in most (n / 10)) ++ (digit_of (n % 10) ∷ [])) (lt-ltb n 10 few))
decimal_in_lem (suc most) (suc (suc k)) n l f =
    let power = pow-suc 10 k in
    let next = pow-suc 10 (suc k) in
    let least : 10 ^ (suc k) ≤ n = subst (λ (m : ℕ). 10 ^ m ≤ n) {x = suc (suc k) - 1} {y = suc k} (omega arith) (f.2 (omega arith)) in
    let same : 10 ^ (suc k - 1) ≡ 10 ^ k = ap (λ (m : ℕ). 10 ^ m) {x = suc k - 1} {y = k} (omega arith) in
    let many : 10 ≤ n = omega (arith, least, power, ten_power k) in
    let fewer : IsDigitCount 10 1 (n / 10) (suc k) = (omega arith, omega (arith, f.1, next), λ h. omega (arith, least, power, same)) in
    ap₂ (λ (front : List ℕ) (g : ℕ). front ++ (g ∷ [])) (decimal_in_lem most (suc k) (n / 10) (omega (arith, l)) fewer) (glyph_is n)
    ∙ sym (ap (λ (t : Bool). cond t [] (decimal_in most (n / 10)) ++ (digit_of (n % 10) ∷ [])) (le-ltb n 10 many))

-- 2 ^ 64 is below 10 ^ 20
few_digits : (n k : ℕ) → n < 2 ^ 64 → IsDigitCount 10 1 n k → k ≤ 20
few_digits n k l f =
    dite (dec_le k 20)
    (λ few. few)
    (λ many.
    let above = lt_of_not-le many in
    let least : 10 ^ (k - 1) ≤ n = f.2 (omega (arith, above)) in
    let parts : 10 ^ (k - 1) ≡ 10 ^ 20 * 10 ^ (k - 21) =
    ap (λ (m : ℕ). 10 ^ m) {x = k - 1} {y = 20 + (k - 21)} (omega (arith, above)) ∙ pow-add 10 20 (k - 21) in
    absurd (omega (arith, l, least, parts, ten_power (k - 21))))

pub decimal_spelt : (n k : ℕ) (text : List ℕ) → n < 2 ^ 64 → IsDigitCount 10 1 n k → take k text ≡ last_digits 10 k n → take k text ≡ decimal_text n
unfolding decimal_text
decimal_spelt n k text l f q = q ∙ decimal_in_lem 20 k n (few_digits n k l f) f
