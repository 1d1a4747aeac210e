-- Texts in their places, one behind the other; the digits of a number, from the last one on. Assumes nothing.
use mathlib.Core.Path.{◌≡◌, refl, sym, ap, ap₂, subst, ◌∙◌}
use Prim.Native.Nat.{ℕ, zero, suc, ◌+◌, ◌*◌, ◌-◌, ◌/◌, ◌%◌, ◌^◌, ◌≤◌, ◌<◌}
use native.Mathlib.Nat.{pow-suc}
use native.Mathlib.Omega.{arith}
use mathlib.Core.List.{List, [], ◌∷◌, ◌++◌, append_assoc}
use lib.ListN.{length, get_or, take, drop, set, length-append, length-drop, length-set, take-append-drop}
use lib.Seq.{lt-length-set, length-take-le, drop-drop, drop-append-add, take-suc, set_at}
use borrow.Author.Tests.{lt-ltb}
use Rattle.io.specs.Digits.{hex_digit_ascii, last_digits, IsDigitCount}
use Rattle.lines.specs.Sinks.{put_at, decimal_text}
use Rattle.lines.specs.Spells.{Spelled}
use Rattle.lines.proofs.Losses.{behind}
use Rattle.lines.proofs.Texts.{decimal_in_lem}

-- ---- a text behind another

-- what is put leaves the block its length
pub put_length : (block text : List ℕ) (at : ℕ) → at + length text ≤ length block → length (put_at block at text) ≡ length block
put_length block text at l =
    let front : length (take at block) ≡ at = length-take-le at block (omega (arith, l)) in
    simp (length-append, length-drop) (omega (arith, l, front))

-- what stands behind a text that was put
put_rest : (block a : List ℕ) (at more : ℕ) → at + length a ≤ length block → drop (at + length a + more) (put_at block at a) ≡ drop (at + length a + more) block
put_rest block a at more l =
    let front = take at block ++ a in
    let size : length front ≡ at + length a = simp length-append (omega (arith, length-take-le at block (omega (arith, l)))) in
    ap (drop (at + length a + more)) (sym (append_assoc (take at block) a (drop (at + length a) block)))
    ∙ ap (λ (n : ℕ). drop n (front ++ drop (at + length a) block)) {x = at + length a + more} {y = length front + more} (omega (arith, size))
    ∙ drop-append-add front (drop (at + length a) block) more
    ∙ drop-drop more (at + length a) block

-- two texts, the second right behind the first, are one
pub put_put : (block a b : List ℕ) (at : ℕ) → at + length a ≤ length block → put_at (put_at block at a) (at + length a) b ≡ put_at block at (a ++ b)
put_put block a b at l =
    let end : at + length a + length b ≡ at + length (a ++ b) = simp length-append (omega arith) in
    let rest = put_rest block a at (length b) l ∙ ap (λ (n : ℕ). drop n block) end in
    ap₂ (λ (x y : List ℕ). x ++ (b ++ y)) (behind block a at (omega (arith, l))) rest
    ∙ append_assoc (take at block) a (b ++ drop (at + length (a ++ b)) block)
    ∙ ap (λ (z : List ℕ). take at block ++ z) (sym (append_assoc a b (drop (at + length (a ++ b)) block)))

pub then : {block a b middle last : List ℕ} {at place after : ℕ}
    → Spelled block at a middle place → Spelled middle place b last after → Spelled block at (a ++ b) last after
then {block = block} {a = a} {b = b} {middle = middle} {last = last} {at = at} {place = place} {after = after} first second =
    let joined : length (a ++ b) ≡ length a + length b = length-append a b in
    let size : length middle ≡ length block = ap length first.bytes ∙ put_length block a at first.fits in
    record {
      place = omega (arith, first.place, second.place, joined);
      bytes =
          second.bytes
          ∙ ap₂ (λ (m : List ℕ) (p : ℕ). put_at m p b) first.bytes first.place
          ∙ put_put block a b at first.fits;
      fits = omega (arith, first.place, second.fits, joined, size);
    }

-- a text that is another one in other words
pub spelled_as : {block text other last : List ℕ} {at after : ℕ} → text ≡ other → Spelled block at text last after → Spelled block at other last after
spelled_as {block = block} {last = last} {at = at} {after = after} e spelled = subst (λ (t : List ℕ). Spelled block at t last after) e spelled

-- ---- the digits of a number

-- a byte right before a text
pub put_before : (block text : List ℕ) (at byte : ℕ) → suc at + length text ≤ length block
    → set (put_at block (suc at) text) at byte ≡ put_at block at (byte ∷ text)
put_before block text at byte l =
    let rest = text ++ drop (suc at + length text) block in
    let front : take (suc at) block ++ rest ≡ take at block ++ get_or block at 0 ∷ rest =
    ap (λ (z : List ℕ). z ++ rest) (take-suc block at 0 (omega (arith, l))) ∙ append_assoc (take at block) (get_or block at 0 ∷ []) rest in
    ap (λ (z : List ℕ). set z at byte) front
    ∙ set_at (take at block) (get_or block at 0) rest byte at (length-take-le at block (omega (arith, l)))
    ∙ ap (λ (n : ℕ). take at block ++ byte ∷ (text ++ drop n block)) {x = suc at + length text} {y = at + suc (length text)} (omega arith)

-- a number divided by ten so many times
unfoldable pub tenths : ℕ → ℕ → ℕ
tenths zero n = n
tenths (suc k) n = tenths k (n / 10)

pub tenths_more : (k n : ℕ) → tenths k n / 10 ≡ tenths (suc k) n
unfolding tenths
tenths_more zero n = refl
tenths_more (suc k) n = tenths_more k (n / 10)

glyph_ten : (n : ℕ) → hex_digit_ascii (n % 10) ≡ 48 + n % 10
glyph_ten n = rw (lt-ltb (n % 10) 10 (omega arith))

-- one digit more in front
pub digits_front : (k n : ℕ) → (48 + tenths k n % 10) ∷ last_digits 10 k n ≡ last_digits 10 (suc k) n
unfolding tenths
digits_front zero n = ap (λ (g : ℕ). g ∷ []) (sym (glyph_ten n))
digits_front (suc k) n = ap (λ (z : List ℕ). z ++ (hex_digit_ascii (n % 10) ∷ [])) (digits_front k (n / 10))

pub digits_length : (k n : ℕ) → length (last_digits 10 k n) ≡ k
digits_length zero n = refl
digits_length (suc k) n = length-append (last_digits 10 k (n / 10)) (hex_digit_ascii (n % 10) ∷ []) ∙ omega (arith, digits_length k (n / 10))

-- as few of them as hold it are its text
pub digits_text : (k n : ℕ) → k ≤ 20 → IsDigitCount 10 1 n k → last_digits 10 k n ≡ decimal_text n
unfolding decimal_text
digits_text k n l f = decimal_in_lem 20 k n l f

pub power_most : (k : ℕ) → k ≤ 18 → 10 ^ k ≤ 10 ^ 18
power_most k l = by (18 - k) k (omega (arith, l))
  where
    by : (d k : ℕ) → k + d ≡ 18 → 10 ^ k ≤ 10 ^ 18
    by zero k e = subst (λ (m : ℕ). 10 ^ m ≤ 10 ^ 18) {x = 18} {y = k} (omega (arith, e)) (omega arith)
    by (suc d) k e = omega (arith, by d (suc k) (omega (arith, e)), pow-suc 10 k)

-- so far so many digits are too few, and the power is that of the count
pub record Counting (number count power : ℕ) : Type 0 where
  pub least : 1 ≤ count
  pub most : count ≤ 19
  pub power_is : power ≡ 10 ^ count
  pub too_few : 1 < count → 10 ^ (count - 1) ≤ number

pub counting_start : (number : ℕ) → Counting number 1 10
counting_start number = record { least = omega arith; most = omega arith; power_is = omega arith; too_few = λ h. absurd (omega (arith, h)) }

pub counting_more : (number count power : ℕ) → Counting number count power → count < 19 → power ≤ number → Counting number (count + 1) (power * 10)
counting_more number count power h l m = record {
  least = omega arith;
  most = omega (arith, l);
  power_is =
      omega (
        arith,
        h.power_is,
        pow-suc 10 count,
        ap (λ (k : ℕ). 10 ^ k) {x = suc count} {y = count + 1} (omega arith),
      );
  too_few = λ _. omega (arith, h.power_is, m, ap (λ (k : ℕ). 10 ^ k) {x = count + 1 - 1} {y = count} (omega arith));
}

pub power_room : (number count power : ℕ) → Counting number count power → count < 19 → power * 10 < 2 ^ 64
power_room number count power h l = omega (arith, h.power_is, power_most count (omega (arith, l)))

pub counted : (number count power : ℕ) → Counting number count power → number < power → IsDigitCount 10 1 number count × (count ≤ 20)
counted number count power h l =
    ((h.least, omega (arith, l, h.power_is), h.too_few), omega (arith, h.most))

-- the power of the last count is asked behind the loop
pub counted_last : (number count power : ℕ) → Counting number count power → 19 ≤ count → number < power → IsDigitCount 10 1 number 19 × (19 ≤ 20)
counted_last number count power h e l =
    subst (λ (k : ℕ). IsDigitCount 10 1 number k × (k ≤ 20)) {x = count} {y = 19} (omega (arith, h.most, e)) (counted number count power h l)

pub counted_most : (number count power : ℕ) → Counting number count power → 19 ≤ count → power ≤ number → number < 2 ^ 64
    → IsDigitCount 10 1 number 20 × (20 ≤ 20)
counted_most number count power h e l fits =
    let last : power ≡ 10 ^ 19 = h.power_is ∙ ap (λ (k : ℕ). 10 ^ k) {x = count} {y = 19} (omega (arith, h.most, e)) in
    ((omega arith, omega (arith, fits), λ _. omega (arith, last, l)), omega arith)

-- the last digits stand from a place on, and the others are left
pub record Filling (block₀ : List ℕ) (at number count : ℕ) (block : List ℕ) (left i : ℕ) : Type 0 where
  pub most : i ≤ count
  pub room : at + count ≤ length block₀
  pub size : length block ≡ length block₀
  pub left_is : left ≡ tenths (count - i) number
  pub block_is : block ≡ put_at block₀ (at + i) (last_digits 10 (count - i) number)

pub filling_start : (block : List ℕ) (at number count : ℕ) → at + count ≤ length block → Filling block at number count block number count
unfolding tenths
filling_start block at number count l =
    let none : count - count ≡ 0 = omega arith in
    record {
      most = omega arith;
      room = l;
      size = refl;
      left_is = ap (λ (k : ℕ). tenths k number) (sym none);
      block_is =
          sym (take-append-drop (at + count) block)
          ∙ ap (λ (n : ℕ). take (at + count) block ++ drop n block) {x = at + count} {y = at + count + 0} (omega arith)
          ∙ ap (λ (k : ℕ). put_at block (at + count) (last_digits 10 k number)) (sym none);
    }

pub filling_more : (block₀ : List ℕ) (at number count : ℕ) (block : List ℕ) (left i : ℕ) → Filling block₀ at number count block left i → 0 < i
    → Filling block₀ at number count (set block (at + (i - 1)) (48 + left % 10)) (left / 10) (i - 1)
filling_more block₀ at number count block left i h l =
    let k = count - i in
    let next : suc k ≡ count - (i - 1) = omega (arith, l, h.most) in
    let place : at + i ≡ suc (at + (i - 1)) = omega (arith, l) in
    let before = put_before block₀ (last_digits 10 k number) (at + (i - 1)) (48 + left % 10) (omega (arith, l, h.most, h.room, digits_length k number)) in
    record {
      most = omega (arith, h.most);
      room = h.room;
      size = length-set block (at + (i - 1)) (48 + left % 10) ∙ h.size;
      left_is = ap (λ (n : ℕ). n / 10) h.left_is ∙ tenths_more k number ∙ ap (λ (n : ℕ). tenths n number) next;
      block_is =
          ap (λ (b : List ℕ). set b (at + (i - 1)) (48 + left % 10))
          (h.block_is ∙ ap (λ (n : ℕ). put_at block₀ n (last_digits 10 k number)) place)
          ∙ before
          ∙ ap (put_at block₀ (at + (i - 1)))
          (ap (λ (n : ℕ). (48 + n % 10) ∷ last_digits 10 k number) h.left_is ∙ digits_front k number ∙ ap (λ (n : ℕ). last_digits 10 n number) next);
    }

-- the higher of two has its place too
pub filling_low : (block₀ : List ℕ) (at number count : ℕ) (block : List ℕ) (left i place byte : ℕ) → Filling block₀ at number count block left i → 1 < i
    → at + (i - 2) < length (set block place byte)
filling_low block₀ at number count block left i place byte h l = lt-length-set block place byte (omega (arith, h.most, h.room, h.size, l))

-- two digits at once
pub filling_two : (block₀ : List ℕ) (at number count : ℕ) (block : List ℕ) (left i : ℕ) → Filling block₀ at number count block left i → 1 < i
    → Filling block₀ at number count (set (set block (at + (i - 2) + 1) (48 + left % 100 % 10)) (at + (i - 2)) (48 + left % 100 / 10)) (left / 100) (i - 2)
filling_two block₀ at number count block left i h l =
    let one = filling_more block₀ at number count block left i h (omega (arith, l)) in
    let two = filling_more block₀ at number count (set block (at + (i - 1)) (48 + left % 10)) (left / 10) (i - 1) one (omega (arith, l)) in
    let place : at + (i - 1) ≡ at + (i - 2) + 1 = omega (arith, l) in
    let next : i - 1 - 1 ≡ i - 2 = omega arith in
    let low : left % 10 ≡ left % 100 % 10 = omega arith in
    let high : left / 10 % 10 ≡ left % 100 / 10 = omega arith in
    let rest : left / 10 / 10 ≡ left / 100 = omega arith in
    rw (← low, ← high, ← rest, ← place, ← next) two

pub filled : (block₀ : List ℕ) (at number count : ℕ) (block : List ℕ) (left i : ℕ) → Filling block₀ at number count block left i → i ≤ 0
    → block ≡ put_at block₀ at (last_digits 10 count number)
filled block₀ at number count block left i h l =
    h.block_is
    ∙ ap₂ (λ (p k : ℕ). put_at block₀ p (last_digits 10 k number)) {x = at + i} {y = at} {u = count - i} {v = count} (omega (arith, l)) (omega (arith, l))

-- the first digit, where it is left alone
pub filled_one : (block₀ : List ℕ) (at number count : ℕ) (block : List ℕ) (left i : ℕ) → Filling block₀ at number count block left i → i ≡ 1
    → set block at (48 + left % 10) ≡ put_at block₀ at (last_digits 10 count number)
filled_one block₀ at number count block left i h e =
    let last = filling_more block₀ at number count block left i h (omega (arith, e)) in
    ap (λ (p : ℕ). set block p (48 + left % 10)) {x = at} {y = at + (i - 1)} (omega (arith, e))
    ∙ filled block₀ at number count (set block (at + (i - 1)) (48 + left % 10)) (left / 10) (i - 1) last (omega (arith, e))

-- none is left
pub filled_even : (block₀ : List ℕ) (at number count : ℕ) (block : List ℕ) (left i : ℕ) → Filling block₀ at number count block left i → i ≤ 1 → (i ≡ 1 → ⊥)
    → block ≡ put_at block₀ at (last_digits 10 count number)
filled_even block₀ at number count block left i h l n = filled block₀ at number count block left i h (omega (arith, l, n))

-- the digits that were counted are spelled in their place
pub number_spelled : (block last : List ℕ) (at number count : ℕ) → at + count ≤ length block → IsDigitCount 10 1 number count × (count ≤ 20)
    → last ≡ put_at block at (last_digits 10 count number) → Spelled block at (decimal_text number) last (at + count) × (at + count ≤ at + 20)
number_spelled block last at number count l few q = (
  spelled_as
      (digits_text count number few.1 few.0)
      (record {
        place = omega (arith, digits_length count number);
        bytes = q;
        fits = omega (arith, l, digits_length count number);
      }),
  omega (arith, few.1),
)
