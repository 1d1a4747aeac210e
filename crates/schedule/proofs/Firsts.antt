-- How many pairs of two lists stand before the first that fails a test: both counts of the check are such. Assumes nothing.
use mathlib.Core.Path.{◌≡◌, refl, ap}
use mathlib.Core.Bool.{Bool, true, false, cond}
use mathlib.Core.List.{List, [], ◌∷◌, map}
use Prim.Native.Nat.{ℕ, zero, suc, ◌≤◌, ◌<◌, suc-le-suc}
use native.Mathlib.Omega.{arith}
use native.Mathlib.Nat.{le_of_suc-le-suc, not-suc-le-zero}
use lib.Dec.{ltb, leb}
use lib.ListN.{length, get_or}
use Rattle.schedule.specs.Frames.{placed_of, is_below, before_offending, before_overloaded}
use Rattle.schedule.specs.declared.messages.Message.{Message}

unfoldable pub before_by : (ℕ → ℕ → Bool) → List ℕ → List ℕ → ℕ
before_by test [] ys = 0
before_by test (x ∷ xs) [] = 0
before_by test (x ∷ xs) (y ∷ ys) = cond (test x y) (suc (before_by test xs ys)) 0

module _ (test : ℕ → ℕ → Bool) where
  -- the pairs before the first pass
  pub passed_before : (xs ys : List ℕ) (i : ℕ) → i < before_by test xs ys → test (get_or xs i 0) (get_or ys i 0) ≡ true
  unfolding before_by
  passed_before [] ys i h = absurd (not-suc-le-zero h)
  passed_before (x ∷ xs) [] i h = absurd (not-suc-le-zero h)
  passed_before (x ∷ xs) (y ∷ ys) i h = go (passed_before xs ys) (test x y) refl i h
    where
      go : ((i : ℕ) → i < before_by test xs ys → test (get_or xs i 0) (get_or ys i 0) ≡ true)
          → (b : Bool) → test x y ≡ b
          → (i : ℕ) → i < cond b (suc (before_by test xs ys)) 0
          → test (get_or (x ∷ xs) i 0) (get_or (y ∷ ys) i 0) ≡ true
      go rest true e zero h = e
      go rest true e (suc i) h = rest i (le_of_suc-le-suc h)
      go rest false e i h = absurd (not-suc-le-zero h)

  -- the first fails, where there is one
  pub failed_at : (xs ys : List ℕ) (n : ℕ) → length xs ≤ length ys → before_by test xs ys ≡ n → n < length xs → test (get_or xs n 0) (get_or ys n 0) ≡ false
  unfolding before_by
  failed_at [] ys n k is h = absurd (not-suc-le-zero h)
  failed_at (x ∷ xs) [] n k is h = absurd (not-suc-le-zero k)
  failed_at (x ∷ xs) (y ∷ ys) n k is h = go (λ n. failed_at xs ys n (le_of_suc-le-suc k)) (test x y) refl n is h
    where
      go : ((n : ℕ) → before_by test xs ys ≡ n → n < length xs → test (get_or xs n 0) (get_or ys n 0) ≡ false)
          → (b : Bool) → test x y ≡ b
          → (n : ℕ) → cond b (suc (before_by test xs ys)) 0 ≡ n → n < suc (length xs)
          → test (get_or (x ∷ xs) n 0) (get_or (y ∷ ys) n 0) ≡ false
      go rest true e zero is h = absurd (omega arith)
      go rest true e (suc n) is h = rest n (omega arith) (le_of_suc-le-suc h)
      go rest false e zero is h = e
      go rest false e (suc n) is h = absurd (omega arith)

  -- so many, where they pass, and the next fails or there is none
  pub stops_at : (xs ys : List ℕ) (n : ℕ) → length xs ≤ length ys → n ≤ length xs
      → ((i : ℕ) → i < n → test (get_or xs i 0) (get_or ys i 0) ≡ true)
      → (n < length xs → test (get_or xs n 0) (get_or ys n 0) ≡ false)
      → before_by test xs ys ≡ n
  unfolding before_by
  stops_at [] ys n k h pass fail = omega arith
  stops_at (x ∷ xs) [] n k h pass fail = absurd (not-suc-le-zero k)
  stops_at (x ∷ xs) (y ∷ ys) zero k h pass fail = rw (fail (suc-le-suc (omega arith)))
  stops_at (x ∷ xs) (y ∷ ys) (suc n) k h pass fail =
      rw (pass 0 (omega arith))
      (ap suc (stops_at xs ys n (le_of_suc-le-suc k) (le_of_suc-le-suc h) (λ i l. pass (suc i) (suc-le-suc l)) (λ l. fail (suc-le-suc l))))

-- ---- the two counts

-- the periods of some messages
abbrev pub periods : List Message → List ℕ
periods ms = map (λ (m : Message). m.period) ms

-- "each first frame is below the period"
abbrev pub is_lower : ℕ → ℕ → Bool
is_lower period first = ltb first period

pub offending_by : (ms : List Message) (fs : List ℕ) → before_offending (placed_of ms fs) ≡ before_by is_lower (periods ms) fs
unfolding before_offending placed_of is_below before_by
offending_by [] fs = refl
offending_by (m ∷ ms) [] = refl
offending_by (m ∷ ms) (f ∷ fs) = rw (offending_by ms fs)

pub overloaded_by : (ls cs : List ℕ) → before_overloaded ls cs ≡ before_by leb ls cs
unfolding before_overloaded before_by
overloaded_by [] cs = refl
overloaded_by (l ∷ ls) [] = refl
overloaded_by (l ∷ ls) (c ∷ cs) = rw (overloaded_by ls cs)
