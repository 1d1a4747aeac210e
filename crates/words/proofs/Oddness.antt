-- Exactly one parity bit makes a word odd, and a turned bit makes a valid word invalid. Assumes nothing.
use mathlib.Core.Path.{◌≡◌, refl, ap, ◌∙◌}
use mathlib.Core.Bool.{Bool, true, false, cond, ◌&&◌, ◌||◌, and-false}
use Prim.Native.Nat.{ℕ, zero, suc, ◌+◌, ◌-◌, ◌*◌, ◌/◌, ◌%◌, ◌^◌, ◌≤◌, ◌<◌}
use native.Mathlib.Nat.{mul-le-mul_right, div-mul-le_self, mod-lt, pow-suc, le_of_suc-le-suc, not-suc-le-zero}
use native.Mathlib.Numerals.{one-add}
use native.Mathlib.Omega.{arith}
use lib.Dec.{eqb, ltb}
use lib.Count.{ones_in}
use lib.Pow.{pow_pos, shr-shr}
use borrow.Author.Tests.{eqb-true, eqb-false, eq-eqb, ne_eqb, ltb-true}
use Rattle.words.specs.Words.{is_odd, parity_of, is_valid}
use Rattle.words.specs.Theorems.{ParityOne, BitTurned, turned}
use Rattle.std.proofs.lemmas.Bool.{and_parts}

-- ---- the parity bit

-- oddness as arithmetic, both ways
odd_is : (word parity : ℕ) → is_odd word parity ≡ true → (ones_in 16 word + parity) % 2 ≡ 1
unfolding is_odd
odd_is word parity h = eqb-true ((ones_in 16 word + parity) % 2) 1 h

is_odd_lem : (word parity : ℕ) → (ones_in 16 word + parity) % 2 ≡ 1 → is_odd word parity ≡ true
unfolding is_odd
is_odd_lem word parity h = eq-eqb ((ones_in 16 word + parity) % 2) 1 h

even_is : (word parity : ℕ) → is_odd word parity ≡ false → (ones_in 16 word + parity) % 2 ≡ 0
unfolding is_odd
even_is word parity h =
    let no : (ones_in 16 word + parity) % 2 ≡ 1 → ⊥ = eqb-false ((ones_in 16 word + parity) % 2) 1 h in
    omega arith

is_even_lem : (word parity : ℕ) → (ones_in 16 word + parity) % 2 ≡ 0 → is_odd word parity ≡ false
unfolding is_odd
is_even_lem word parity h = ne_eqb ((ones_in 16 word + parity) % 2) 1 (λ e. omega arith)

-- by whether the word is odd without a parity bit
one_of : (word : ℕ) (b : Bool) → is_odd word 0 ≡ b
    → (cond b 0 1 < 2) × (is_odd word (cond b 0 1) ≡ true) × ((parity : ℕ) → parity < 2 → is_odd word parity ≡ true → parity ≡ cond b 0 1)
one_of word true h = (omega arith, h, λ parity below e. omega (arith, odd_is word 0 h, odd_is word parity e))
one_of word false h =
    (omega arith, is_odd_lem word 1 (omega (arith, even_is word 0 h)), λ parity below e. omega (arith, even_is word 0 h, odd_is word parity e))

pub parity_one : ParityOne
unfolding parity_of
parity_one word = one_of word (is_odd word 0) refl

-- ---- a turned bit

-- a number with the bit of weight p turned, b being that bit
turn : ℕ → ℕ → ℕ → ℕ
turn p b word = cond (eqb b 1) (word - p) (word + p)

-- a bit that is set is in the number
bit_in : (p word : ℕ) → word / p % 2 ≡ 1 → p ≤ word
bit_in p word h =
    let some : 1 ≤ word / p = omega arith in
    omega (arith, mul-le-mul_right p some, div-mul-le_self word p)

-- turning the lowest bit turns the number's last digit and leaves the others
turn_lowest : (b word : ℕ) → b ≡ word % 2 → (turn 1 b word % 2 + word % 2 ≡ 1) × (turn 1 b word / 2 ≡ word / 2)
unfolding turn
turn_lowest zero word h = (omega arith, omega arith)
turn_lowest (suc zero) word h = (omega arith, omega arith)
turn_lowest (suc (suc b)) word h = absurd (omega arith)

-- turning a higher bit leaves the last digit, and turns the bit below in the others
turn_higher : (p b word : ℕ) → b < 2 → (b ≡ 1 → p * 2 ≤ word) → (turn (p * 2) b word % 2 ≡ word % 2) × (turn (p * 2) b word / 2 ≡ turn p b (word / 2))
unfolding turn
turn_higher p zero word h within = (omega arith, omega arith)
turn_higher p (suc zero) word h within = (omega (arith, within refl), omega (arith, within refl))
turn_higher p (suc (suc b)) word h within = absurd (omega arith)

turned_lowest : (word : ℕ) → (turned 0 word % 2 + word % 2 ≡ 1) × (turned 0 word / 2 ≡ word / 2)
unfolding turned turn
turned_lowest word = turn_lowest (word / 2 ^ 0 % 2) word (omega arith)

turned_higher : (k word : ℕ) → (turned (suc k) word % 2 ≡ word % 2) × (turned (suc k) word / 2 ≡ turned k (word / 2))
unfolding turned turn
turned_higher k word =
    let half : word / 2 / 2 ^ k ≡ word / 2 ^ suc k = shr-shr word 1 k ∙ ap (λ (e : ℕ). word / 2 ^ e) (one-add k) in
    let twice : 2 ^ suc k ≡ 2 ^ k * 2 = pow-suc 2 k in
    rw (half, twice)
    (turn_higher (2 ^ k) (word / (2 ^ k * 2) % 2) word (mod-lt (word / (2 ^ k * 2)) (pow_pos 1)) (bit_in (2 ^ k * 2) word))

-- so the counts of ones differ by one
ones_turned : (n k word : ℕ) → k < n → (ones_in n (turned k word) + ones_in n word) % 2 ≡ 1
unfolding ones_in
ones_turned zero k word h = absurd (not-suc-le-zero h)
ones_turned (suc n) zero word h =
    let t = turned_lowest word in
    rw t.1 (omega (arith, t.0))
ones_turned (suc n) (suc k) word h =
    let t = turned_higher k word in
    rw (t.0, t.1) (omega (arith, ones_turned n k (word / 2) (le_of_suc-le-suc h)))

even_invalid : (sync faults word parity : ℕ) → is_odd word parity ≡ false → is_valid sync faults word parity ≡ false
unfolding is_valid
even_invalid sync faults word parity h = rw h (and-false ((eqb sync 0 || eqb sync 1) && eqb faults 0 && ltb parity 2))

pub bit_turned : BitTurned
unfolding is_valid
bit_turned sync faults word parity valid =
    let outer = and_parts ((eqb sync 0 || eqb sync 1) && eqb faults 0 && ltb parity 2) (is_odd word parity) valid in
    let inner = and_parts ((eqb sync 0 || eqb sync 1) && eqb faults 0) (ltb parity 2) outer.0 in
    let odd = odd_is word parity outer.1 in
    let below : parity < 2 = ltb-true parity 2 inner.1 in (
      λ place h. even_invalid sync faults (turned place word) parity (is_even_lem (turned place word) parity (omega (arith, ones_turned 16 place word h))),
      even_invalid sync faults word (1 - parity) (is_even_lem word (1 - parity) (omega arith)),
    )
