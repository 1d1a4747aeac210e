-- Laws of the status flags. Assumes nothing.
use mathlib.Core.Path.{◌≡◌, refl, sym, ap, subst, ◌∙◌}
use mathlib.Core.Bool.{true, not}
use mathlib.Core.Logic.{dite}
use Prim.Native.Nat.{ℕ, zero, suc, ◌+◌, ◌-◌, ◌/◌, ◌%◌, ◌^◌, ◌<◌}
use native.Mathlib.Nat.{mod-lt, div_self, div-eq_of_lt, pow-suc}
use native.Mathlib.Decide.{dec_le}
use native.Mathlib.Omega.{arith}
use lib.Dec.{eqb}
use lib.Bits.{bit_and, bit_or, and_mask, or_shr, or_mod, or_zero_r}
use lib.Pow.{pow_pos, pow-lt, pow-add, shl-shr}
use Rattle.words.specs.Words.{field_of, bit_of, has_flag, with_flag, kept_of, flags_of}
use Rattle.words.specs.Theorems.{FlagAlone}
use Rattle.words.specs.declared.statuses.Flag.{Flag}
use Rattle.words.specs.declared.statuses.Flag.TheVariants.{MessageError, ServiceRequest, BroadcastReceived, Busy, Subsystem, Terminal}
use Rattle.words.proofs.Bits.{and_top, test_bit, or_bit}

-- each flag is one bit
place : (flag : Flag) → (k : ℕ) × (bit_of flag ≡ 2 ^ k)
place MessageError = (10, refl)
place ServiceRequest = (8, refl)
place BroadcastReceived = (4, refl)
place Busy = (3, refl)
place Subsystem = (2, refl)
place Terminal = (0, refl)

-- `&` with the flag's bit tests it
pub flag_tested : (flag : Flag) (word : ℕ) → not (eqb (bit_and word (bit_of flag)) 0) ≡ has_flag flag word
unfolding has_flag
flag_tested flag word =
    let at = place flag in
    subst (λ (b : ℕ). not (eqb (bit_and word b) 0) ≡ eqb (word / b % 2) 1) (sym at.1) (test_bit at.0 word)

-- `|` with the flag's bit sets it
pub flag_set : (flag : Flag) (word : ℕ) → bit_or word (bit_of flag) ≡ with_flag flag word
unfolding with_flag has_flag
flag_set flag word =
    let at = place flag in
    rw at.1 (or_bit at.0 word)

-- a sum from the right is the sum from the left
regroup : (a b c d e f : ℕ) → a + (b + (c + (d + (e + f)))) ≡ a + b + c + d + e + f
regroup a b c d e f = omega arith

-- the mask 051D keeps the six flags
pub flags_kept : (word : ℕ) → bit_and word 0x051D ≡ flags_of word
flags_kept word =
    let low : bit_and word 1 ≡ kept_of Terminal word = omega (arith, and_mask word 1) in
    rw (and_top 10 word 0x011D (omega arith), and_top 8 word 0x001D (omega arith), and_top 4 word 0x000D (omega arith), and_top 3 word 0x0005 (omega arith), and_top 2 word 0x0001 (omega arith), low)
    (regroup
    (kept_of MessageError word)
    (kept_of ServiceRequest word)
    (kept_of BroadcastReceived word)
    (kept_of Busy word)
    (kept_of Subsystem word)
    (kept_of Terminal word))

-- ---- a set flag changes no other bit

-- a bit of two numbers joined by `|`
or_at : (place a b : ℕ) → bit_or a b / 2 ^ place % 2 ≡ bit_or (a / 2 ^ place % 2) (b / 2 ^ place % 2)
or_at place a b = ap (λ (x : ℕ). x % 2) (or_shr a b place) ∙ or_mod (a / 2 ^ place) (b / 2 ^ place) 1

-- a power of two has its own bit and no other
own_bit : (k : ℕ) → 2 ^ k / 2 ^ k % 2 ≡ 1
own_bit k = ap (λ (x : ℕ). x % 2) (div_self (pow_pos k))

higher_bit : (j d : ℕ) → 2 ^ (suc d + j) / 2 ^ j % 2 ≡ 0
higher_bit j d =
    let above : 2 ^ (suc d + j) / 2 ^ j ≡ 2 ^ suc d = ap (λ (x : ℕ). x / 2 ^ j) (pow-add 2 (suc d) j) ∙ shl-shr (2 ^ suc d) j in
    rw above (omega (arith, pow-suc 2 d))

other_bit : (j k : ℕ) → (2 ^ j ≡ 2 ^ k → ⊥) → 2 ^ k / 2 ^ j % 2 ≡ 0
other_bit j k apart =
    dite (dec_le (suc k) j)
    (λ below. ap (λ (x : ℕ). x % 2) (div-eq_of_lt (pow-lt below)))
    (λ not_below.
    dite (dec_le (suc j) k)
    (λ above.
    let far : suc (k - suc j) + j ≡ k = omega arith in
    subst (λ (n : ℕ). 2 ^ n / 2 ^ j % 2 ≡ 0) far (higher_bit j (k - suc j)))
    (λ not_above.
    let same : j ≡ k = omega arith in
    absurd (apart (ap (λ (n : ℕ). 2 ^ n) same))))

-- a bit joined with 1 is 1
with_one : (x : ℕ) → x < 2 → bit_or x 1 ≡ 1
with_one zero h = refl
with_one (suc zero) h = refl
with_one (suc (suc x)) h = absurd (omega arith)

-- the flag's bit stands at k
module _ (flag : Flag) (word k : ℕ) (at : bit_of flag ≡ 2 ^ k) where
  flag_there : has_flag flag (with_flag flag word) ≡ true
  unfolding has_flag
  flag_there = rw (← flag_set flag word, at, or_at k word (2 ^ k), own_bit k, with_one (word / 2 ^ k % 2) (mod-lt (word / 2 ^ k) (pow_pos 1)))

  bit_stays : (j : ℕ) → (2 ^ j ≡ 2 ^ k → ⊥) → field_of j 1 (with_flag flag word) ≡ field_of j 1 word
  bit_stays j apart = rw (← flag_set flag word, at, or_at j word (2 ^ k), other_bit j k apart, or_zero_r (word / 2 ^ j % 2))

pub flag_alone : FlagAlone
flag_alone flag word =
    let at = place flag in
    let k = at.0 in
    (flag_there flag word k at.1, λ j apart. bit_stays flag word k at.1 j (λ e. apart (e ∙ sym at.1)))
