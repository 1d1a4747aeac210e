-- Laws of numbers in bytes, over any number of bytes. Assumes nothing.
use mathlib.Core.Path.{◌≡◌, refl, sym, ap, ◌∙◌}
use Prim.Native.Nat.{ℕ, zero, suc, ◌+◌, ◌*◌, ◌/◌, ◌^◌, ◌<◌, ◌≤◌}
use native.Mathlib.Nat.{pow-zero, pow-suc, pow-succ', mul-one, mul_assoc, add-zero, add-suc, suc-add, zero-add, div-lt_iff_lt-mul, div-add-mod'}
use native.Mathlib.Omega.{arith}
use mathlib.Core.List.{List, [], ◌∷◌, ◌++◌, append-nil, append_assoc}
use lib.ListN.{length, get_or, take, drop, length-drop}
use lib.Arith.{digits_lt, digits_div, digits_mod}
use Rattle.std.proofs.lemmas.List.{get_or-drop}
use Rattle.records.specs.Theorems.{Bytes}
use Rattle.records.specs.Numbers.{number_after, number_of, bytes_of}

pub bytes_take : (n : ℕ) (s : List ℕ) → Bytes s → Bytes (take n s)
bytes_take zero s h i = omega arith
bytes_take (suc n) [] h i = omega arith
bytes_take (suc n) (x ∷ s) h zero = h 0
bytes_take (suc n) (x ∷ s) h (suc i) = bytes_take n s (λ j. h (suc j)) i

pub bytes_drop : (n : ℕ) (s : List ℕ) → Bytes s → Bytes (drop n s)
bytes_drop zero s h i = h i
bytes_drop (suc n) [] h i = omega arith
bytes_drop (suc n) (x ∷ s) h i = bytes_drop n s (λ j. h (suc j)) i

pub number_snoc : (acc : ℕ) (xs : List ℕ) (b : ℕ) → number_after acc (xs ++ (b ∷ [])) ≡ number_after acc xs * 256 + b
unfolding number_after
number_snoc acc [] b = refl
number_snoc acc (x ∷ xs) b = number_snoc (acc * 256 + x) xs b

pub number_lt : {acc m : ℕ} (xs : List ℕ) → acc < m → Bytes xs → number_after acc xs < m * 256 ^ length xs
unfolding number_after
number_lt {acc} {m} [] l h = rw (pow-zero, mul-one) l
number_lt {acc} {m} (x ∷ xs) l h = rw (pow-succ', ← mul_assoc) (number_lt {acc = acc * 256 + x} {m = m * 256} xs (digits_lt l (h 0)) (λ i. h (suc i)))

-- the bytes of a number that fits them spell it
pub number_bytes : (n v : ℕ) → v < 256 ^ n → number_of (bytes_of n v) ≡ v
unfolding number_after
number_bytes zero v h = let g : v < 1 = rw pow-zero at h in omega arith
number_bytes (suc n) v h =
    let g : v < 256 ^ n * 256 = rw pow-suc at h in
    rw (number_snoc, number_bytes n (v / 256) ((div-lt_iff_lt-mul (omega arith)).1 g)) (div-add-mod' v 256)

-- bytes are those of the number that they spell
pub bytes_number_from : (n acc : ℕ) (xs : List ℕ) → Bytes xs → bytes_of (n + length xs) (number_after acc xs) ≡ bytes_of n acc ++ xs
unfolding number_after
bytes_number_from n acc [] h = rw (add-zero, append-nil)
bytes_number_from n acc (x ∷ xs) h =
    ap (λ (k : ℕ). bytes_of k (number_after (acc * 256 + x) xs)) (add-suc n (length xs) ∙ sym (suc-add n (length xs)))
    ∙ bytes_number_from (suc n) (acc * 256 + x) xs (λ i. h (suc i))
    ∙ rw (digits_div acc (h 0), digits_mod acc (h 0)) (append_assoc (bytes_of n acc) (x ∷ []) xs)

pub bytes_number : (xs : List ℕ) → Bytes xs → bytes_of (length xs) (number_of xs) ≡ xs
bytes_number xs h = ap (λ (k : ℕ). bytes_of k (number_of xs)) (sym (zero-add (length xs))) ∙ bytes_number_from 0 0 xs h

-- ---- the numbers of two and of eight bytes, as std puts them together

two_bytes : (s : List ℕ) → 2 ≤ length s → get_or s 0 0 * 256 + get_or s 1 0 ≡ number_of (take 2 s)
unfolding number_after
two_bytes [] l = absurd (omega arith)
two_bytes (x ∷ []) l = absurd (omega arith)
two_bytes (x ∷ y ∷ s) l = omega arith

-- from a place on
pub two_at : (k : ℕ) (s : List ℕ) → k + 2 ≤ length s → get_or s (k + 0) 0 * 256 + get_or s (k + 1) 0 ≡ number_of (take 2 (drop k s))
two_at k s l =
    let long : 2 ≤ length (drop k s) = omega (arith, length-drop k s) in
    omega (arith, two_bytes (drop k s) long, get_or-drop k s 0 0, get_or-drop k s 1 0)

eight_bytes : (s : List ℕ) → 8 ≤ length s
    → get_or s 0 0 * 72057594037927936 + get_or s 1 0 * 281474976710656 + get_or s 2 0 * 1099511627776 + get_or s 3 0 * 4294967296 + get_or s 4 0 * 16777216 + get_or s 5 0 * 65536 + get_or s 6 0 * 256 + get_or s 7 0
    ≡ number_of (take 8 s)
unfolding number_after
eight_bytes [] l = absurd (omega arith)
eight_bytes (a ∷ []) l = absurd (omega arith)
eight_bytes (a ∷ b ∷ []) l = absurd (omega arith)
eight_bytes (a ∷ b ∷ c ∷ []) l = absurd (omega arith)
eight_bytes (a ∷ b ∷ c ∷ d ∷ []) l = absurd (omega arith)
eight_bytes (a ∷ b ∷ c ∷ d ∷ e ∷ []) l = absurd (omega arith)
eight_bytes (a ∷ b ∷ c ∷ d ∷ e ∷ f ∷ []) l = absurd (omega arith)
eight_bytes (a ∷ b ∷ c ∷ d ∷ e ∷ f ∷ g ∷ []) l = absurd (omega arith)
eight_bytes (a ∷ b ∷ c ∷ d ∷ e ∷ f ∷ g ∷ h ∷ s) l = omega arith

pub eight_at : (k : ℕ) (s : List ℕ) → k + 8 ≤ length s
    → get_or s (k + 0) 0 * 72057594037927936 + get_or s (k + 1) 0 * 281474976710656 + get_or s (k + 2) 0 * 1099511627776 + get_or s (k + 3) 0 * 4294967296 + get_or s (k + 4) 0 * 16777216 + get_or s (k + 5) 0 * 65536 + get_or s (k + 6) 0 * 256 + get_or s (k + 7) 0
    ≡ number_of (take 8 (drop k s))
eight_at k s l =
    let long : 8 ≤ length (drop k s) = omega (arith, length-drop k s) in
    omega (arith, eight_bytes (drop k s) long, get_or-drop k s 0 0, get_or-drop k s 1 0, get_or-drop k s 2 0, get_or-drop k s 3 0, get_or-drop k s 4 0, get_or-drop k s 5 0, get_or-drop k s 6 0, get_or-drop k s 7 0)
