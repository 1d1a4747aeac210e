-- Bytes that all pass a test: of two texts, one behind the other; how far they reach, where the next byte does not pass. Assumes nothing.
use mathlib.Core.Path.{◌≡◌, refl, sym, ap, ap₂, ◌∙◌}
use mathlib.Core.Bool.{Bool, true, false, true≢false}
use Prim.Native.Nat.{ℕ, ◌≤◌}
use native.Mathlib.Omega.{arith}
use mathlib.Core.List.{List, [], ◌∷◌, ◌++◌}
use lib.ListN.{length, get_or, drop}
use Rattle.std.proofs.lemmas.Bool.{and_parts}
use Rattle.lines.specs.Numbers.{is_digit, are_digits}
use Rattle.texts.specs.Theorems.{are_all}

-- digits are bytes that pass the test of a digit
pub digits_all : (text : List ℕ) → are_digits text ≡ true → are_all is_digit text ≡ true
unfolding are_digits are_all
digits_all [] d = d
digits_all (c ∷ text) d =
    let parts = and_parts (is_digit c) (are_digits text) d in
    rw (parts.0, digits_all text parts.1)

module _ (test : ℕ → Bool) where
  pub all_both : (a b : List ℕ) → are_all test a ≡ true → are_all test b ≡ true → are_all test (a ++ b) ≡ true
  unfolding are_all
  all_both [] b p q = q
  all_both (c ∷ a) b p q =
      let parts = and_parts (test c) (are_all test a) p in
      rw (parts.0, all_both a b parts.1 q)

  -- what passes one test passes one that asks less
  pub all_as : (other : ℕ → Bool) → ((byte : ℕ) → test byte ≡ true → other byte ≡ true) → (text : List ℕ) → are_all test text ≡ true → are_all other text ≡ true
  unfolding are_all
  all_as other less [] p = refl
  all_as other less (c ∷ text) p =
      let parts = and_parts (test c) (are_all test text) p in
      rw (less c parts.0, all_as other less text parts.1)

  pub all_begins : (text x : List ℕ) → are_all test text ≡ true → 1 ≤ length text → test (get_or (text ++ x) 0 32) ≡ true
  unfolding are_all
  all_begins [] x p l = absurd (omega (arith, l))
  all_begins (c ∷ text) x p l = (and_parts (test c) (are_all test text) p).0

  -- where the next byte does not pass, the front is told from what stands behind it
  pub front_tells : (a b x y : List ℕ) → are_all test a ≡ true → are_all test b ≡ true → test (get_or x 0 32) ≡ false → test (get_or y 0 32) ≡ false
      → a ++ x ≡ b ++ y → (a ≡ b) × (x ≡ y)
  unfolding are_all
  front_tells [] [] x y p q s t e = (refl, e)
  front_tells [] (c ∷ b) x y p q s t e =
      absurd (true≢false (sym (and_parts (test c) (are_all test b) q).0 ∙ sym (ap (λ (l : List ℕ). test (get_or l 0 32)) e) ∙ s))
  front_tells (c ∷ a) [] x y p q s t e = absurd (true≢false (sym (and_parts (test c) (are_all test a) p).0 ∙ ap (λ (l : List ℕ). test (get_or l 0 32)) e ∙ t))
  front_tells (c ∷ a) (d ∷ b) x y p q s t e =
      let rest = front_tells a b x y (and_parts (test c) (are_all test a) p).1 (and_parts (test d) (are_all test b) q).1 s t (ap (drop 1) e) in
      (ap₂ (λ (n : ℕ) (l : List ℕ). n ∷ l) (ap (λ (l : List ℕ). get_or l 0 32) e) rest.0, rest.1)
