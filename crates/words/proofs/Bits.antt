-- Laws of shifts, masks and `|`, over any width. Assumes nothing.
use mathlib.Core.Path.{◌≡◌, sym, ap, subst, ◌∙◌}
use mathlib.Core.Bool.{not, cond}
use Prim.Native.Nat.{ℕ, zero, suc, ◌+◌, ◌*◌, ◌/◌, ◌%◌, ◌^◌, ◌≤◌, ◌<◌}
use native.Mathlib.Nat.{add-zero, zero-mul, mod-lt, mod-eq_of_lt, lt_of_le_of_lt, lt_of_lt_of_le, div-eq_of_lt}
use native.Mathlib.Omega.{arith}
use lib.Dec.{eqb}
use Rattle.std.proofs.lemmas.Nat.Bits.{and_pow}
use lib.Pow.{split, pow_pos, pow_mono}
use lib.Bits.{bit_and, bit_or, and_mask, and_mod, and_block, and_le_r, or_shifted, or_add_and}
use borrow.Author.Tests.{ne_eqb}

-- x ends in k zeros and b has k bits: they share no bit
pub or_low : (k x b : ℕ) → x % 2 ^ k ≡ 0 → b < 2 ^ k → bit_or x b ≡ x + b
or_low k x b e h =
    let whole : x / 2 ^ k * 2 ^ k ≡ x = sym (add-zero (x / 2 ^ k * 2 ^ k)) ∙ ap (λ (n : ℕ). x / 2 ^ k * 2 ^ k + n) (sym e) ∙ split x k in
    subst (λ (y : ℕ). bit_or y b ≡ y + b) whole (or_shifted (x / 2 ^ k) k b h)

-- a mask with one bit more on top
pub and_top : (k n m : ℕ) → m < 2 ^ k → bit_and n (1 * 2 ^ k + m) ≡ n / 2 ^ k % 2 * 2 ^ k + bit_and n m
and_top k n m h =
    let low : bit_and (n % 2 ^ k) m ≡ bit_and n m =
    ap (bit_and (n % 2 ^ k)) (sym (mod-eq_of_lt h)) ∙ sym (and_mod n m k) ∙ mod-eq_of_lt (lt_of_le_of_lt (and_le_r n m) h) in
    ap (λ (x : ℕ). bit_and x (1 * 2 ^ k + m)) (sym (split n k))
    ∙ and_block k (n / 2 ^ k) 1 (n % 2 ^ k) m (mod-lt n (pow_pos k)) h
    ∙ ap (λ (x : ℕ). x * 2 ^ k + bit_and (n % 2 ^ k) m) (and_mask (n / 2 ^ k) 1)
    ∙ ap (λ (x : ℕ). n / 2 ^ k % 2 * 2 ^ k + x) low

-- one bit tested, p its weight and b its value
tested : (p b : ℕ) → b < 2 → 0 < p → not (eqb (b * p) 0) ≡ eqb b 1
tested p zero h q = ap (λ (x : ℕ). not (eqb x 0)) (zero-mul p)
tested p (suc zero) h q = ap not (ne_eqb (1 * p) 0 (λ e. omega arith))
tested p (suc (suc b)) h q = absurd (omega arith)

pub test_bit : (k n : ℕ) → not (eqb (bit_and n (2 ^ k)) 0) ≡ eqb (n / 2 ^ k % 2) 1
test_bit k n =
    ap (λ (x : ℕ). not (eqb x 0)) (and_pow n k) ∙ tested (2 ^ k) (n / 2 ^ k % 2) (mod-lt (n / 2 ^ k) (pow_pos 1)) (pow_pos k)

-- one bit set, p its weight, b its value before and o the word after
set : (p n b o : ℕ) → b < 2 → o + b * p ≡ n + p → o ≡ cond (eqb b 1) n (n + p)
set p n zero o h e = omega arith
set p n (suc zero) o h e = omega arith
set p n (suc (suc b)) o h e = absurd (omega arith)

pub or_bit : (k n : ℕ) → bit_or n (2 ^ k) ≡ cond (eqb (n / 2 ^ k % 2) 1) n (n + 2 ^ k)
or_bit k n =
    set (2 ^ k) n (n / 2 ^ k % 2) (bit_or n (2 ^ k)) (mod-lt (n / 2 ^ k) (pow_pos 1))
    (ap (λ (x : ℕ). bit_or n (2 ^ k) + x) (sym (and_pow n k)) ∙ or_add_and n (2 ^ k))

-- a number of j bits has none at k or above
pub bit_past : (j k n : ℕ) → n < 2 ^ j → j ≤ k → n / 2 ^ k % 2 ≡ 0
bit_past j k n h le = ap (λ (x : ℕ). x % 2) (div-eq_of_lt (lt_of_lt_of_le h (pow_mono le)))
